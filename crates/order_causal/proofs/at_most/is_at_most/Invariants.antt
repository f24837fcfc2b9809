use Rattle.std.proofs.Common.{◌↔◌, ◌<◌, ◌≤◌, ℕ, get_or}
use Rattle.std.specs.Prelude.{IsTrue}
use Rattle.order_causal.proofs.at_most.is_at_most.Given as goal

-- whether the counts so far are at most their bounds
abbrev pub invariant-loop-place : goal.invariant-loop-place
invariant-loop-place l = IsTrue l.all ↔ ((s : ℕ) → s < l.place → get_or l.counts s 0 ≤ get_or l.bounds s 0)
