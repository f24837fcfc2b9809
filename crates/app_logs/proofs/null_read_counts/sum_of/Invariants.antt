use Rattle.std.proofs.Common.{◌≡◌, ℕ, take}
use Rattle.std.specs.List.{sum_by}
use Rattle.app_logs.proofs.null_read_counts.sum_of.Given as goal

-- the sum of the counts so far
abbrev pub invariant-loop-entry : goal.invariant-loop-entry
invariant-loop-entry l = l.sum ≡ sum_by (λ (entry : ℕ × ℕ). entry.1) (take l.entry-index l.counts)
