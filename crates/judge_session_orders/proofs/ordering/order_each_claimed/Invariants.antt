use Rattle.std.specs.Prelude.{◌≡◌}
use Rattle.judge_session_orders.specs.Beginnings.{IsBeginning}
use Rattle.judge_session_orders.specs.OnItsWay.{IsClear}
use Rattle.judge_session_orders.specs.OrderedSessions.{AreOrderedSessions}
use Rattle.judge_session_orders.proofs.ordering.order_each_claimed.Given as goal

-- the claimed sessions are ordered, and nothing is left
abbrev pub invariant-loop-claim : goal.invariant-loop-claim
invariant-loop-claim l = record {
  beginning : IsBeginning l.index l.order l.beginning;
  clear : IsClear l.index l.backward;
  sessions : l.turns.sessions.items ≡ l.initial.turns.sessions.items;
  ordered : AreOrderedSessions l.index.history l.sessions l.found;
}
