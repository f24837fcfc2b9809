use Rattle.std.proofs.Common.{ℕ, ◌<◌, ◌≢◌}
use Rattle.order_causal.specs.Vectors.{IsPastLastOf}
use Rattle.order_causal.proofs.vectors.counts_with_others.Given as goal

-- the sessions so far pass the test
abbrev pub invariant-loop-session : goal.invariant-loop-session
invariant-loop-session l = (s : ℕ) → s < l.session → s ≢ l.op.session → IsPastLastOf l.v l.op s
