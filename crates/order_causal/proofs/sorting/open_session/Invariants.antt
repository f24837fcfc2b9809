use Rattle.std.proofs.Common.{◌<◌, ℕ}
use Rattle.order_causal.specs.Steps.Waiting.{IsOpen}
use Rattle.order_causal.proofs.sorting.open_session.Given as goal

-- none of the sessions so far
abbrev pub invariant-loop-session : goal.invariant-loop-session
invariant-loop-session l = (s : ℕ) → s < l.session → ¬ IsOpen l.waits l.walk s
