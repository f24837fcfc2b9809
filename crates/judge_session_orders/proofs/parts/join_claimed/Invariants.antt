use Rattle.std.specs.Prelude.{vec_len}
use Rattle.judge_session_orders.specs.OrderedSessions.{AreClaimed, AreOrderedSessions}
use Rattle.judge_session_orders.proofs.parts.join_claimed.Given as goal

-- what is left, and what the others show together
abbrev pub invariant-loop-part : goal.invariant-loop-part
invariant-loop-part l = record {
  each : AreClaimed l._index.history l._sessions (vec_len l.parts) l.parts.items;
  whole : AreOrderedSessions l._index.history l._sessions l.whole;
}

abbrev pub decreases-loop-part : goal.decreases-loop-part
decreases-loop-part l = vec_len l.parts
