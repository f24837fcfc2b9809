use Rattle.std.specs.Prelude.{◌≡◌, ℕ, drop, length}
use Rattle.judge_session_orders.specs.Pasts.{AreReadEdges, IsPastAfter}
use Rattle.judge_session_orders.specs.SessionOrders.{last_op}
use Rattle.judge_session_orders.specs.Tables.{left_counts}
use Rattle.judge_session_orders.proofs.pasts.leave_past.Given as goal

-- of the operations from a place of the order on, those of the past are left; the edges that follow are of reads before that place
abbrev pub invariant-loop-i : goal.invariant-loop-i
invariant-loop-i l = record {
  sessions : length l.ends.items ≡ length l.index.history.1;
  past : (place : ℕ) × IsPastAfter l.index.history (last_op l.index.history l.own) l._order place
      (left_counts l.index.history l.ends.items) × AreReadEdges l.index.history l._order place (drop l.i l.edges);
}
