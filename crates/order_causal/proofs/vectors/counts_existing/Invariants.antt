use Rattle.std.proofs.Common.{ℕ, ◌<◌, ◌≤◌, get_or, length}
use Rattle.model_history.specs.History.{session}
use Rattle.order_causal.proofs.vectors.counts_existing.Given as goal

-- the counts so far are those of operations that are there
abbrev pub invariant-loop-session : goal.invariant-loop-session
invariant-loop-session g l = (s : ℕ) → s < l.session → get_or l.count-items s 0 ≤ length (session l.h s)
