use Rattle.std.specs.Prelude.{ℕ, ◌<◌, slice_index_or}
use Rattle.judge_session_orders.specs.Backward.{IsOpen}
use Rattle.judge_session_orders.specs.OnItsWay.{left_of}
use Rattle.judge_session_orders.proofs.backward.Backward.is_any_left.Given as goal

-- of the sessions before the place nothing is left
abbrev pub invariant-loop-i : goal.invariant-loop-i
invariant-loop-i l = (j : ℕ) → j < l.i → ¬ IsOpen (left_of l.index.history l.self) (slice_index_or l.sessions j 0)
