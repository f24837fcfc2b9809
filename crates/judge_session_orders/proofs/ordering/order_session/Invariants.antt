use Rattle.std.specs.Prelude.{◌≡◌}
use Rattle.judge_session_orders.specs.OnItsWay.{IsAwake, IsOnItsWay, many_left}
use Rattle.judge_session_orders.proofs.ordering.order_session.Given as goal

abbrev pub invariant-loop-session : goal.invariant-loop-session
invariant-loop-session l = record {
  on_its_way : IsOnItsWay l.index l.backward;
  own : l.backward.own ≡ l.own;
  sessions : l.turns.sessions.items ≡ l.fn.turns.sessions.items;
  awake : IsAwake l.index l.backward l.turns.awake.items;
}

-- fewer operations are left
abbrev pub decreases-loop-session : goal.decreases-loop-session
decreases-loop-session l = many_left l.index.history l.backward
