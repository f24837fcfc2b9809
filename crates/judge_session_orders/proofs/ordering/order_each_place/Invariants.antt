use Rattle.std.specs.Prelude.{◌≡◌, ◌<◌, ℕ, Some, slice_get}
use Rattle.judge_session_orders.specs.Beginnings.{IsBeginning}
use Rattle.judge_session_orders.specs.OnItsWay.{IsClear}
use Rattle.judge_session_orders.specs.OrderedSessions.{IsOrderedAt}
use Rattle.judge_session_orders.proofs.ordering.order_each_place.Given as goal

-- the sessions at the first places are ordered, and nothing is left
abbrev pub invariant-loop-i : goal.invariant-loop-i
invariant-loop-i l = record {
  beginning : IsBeginning l.index l.order l.beginning;
  clear : IsClear l.index l.backward;
  sessions : l.turns.sessions.items ≡ l.initial.turns.sessions.items;
  ordered : (j k : ℕ) → j < l.i → slice_get l.places j ≡ Some k → IsOrderedAt l.index.history l.sessions k;
}
