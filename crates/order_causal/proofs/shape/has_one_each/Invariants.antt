use Rattle.std.proofs.Common.{◌≡◌, ℕ, ◌<◌, [], length, get_or}
use Rattle.model_history.specs.History.{session}
use Rattle.order_causal.proofs.shape.has_one_each.Given as goal

-- the sessions so far have one list for each operation
abbrev pub invariant-loop-session : goal.invariant-loop-session
invariant-loop-session g l = (s : ℕ) → s < l.session → length (get_or l.lists s []) ≡ length (session l.h s)
