use Rattle.std.proofs.Common.{◌≡◌, ◌<◌, ◌≤◌, ℕ, length, get_or}
use Rattle.std.specs.Prelude.{max}
use Rattle.order_memory.proofs.placing.raise.Given as goal

-- the counts so far are raised, and the others as they were
abbrev pub invariant-loop-i : goal.invariant-loop-i
invariant-loop-i l = record {
  counts : length l.counts.items ≡ length l.fn.counts.items;
  raised : (s : ℕ) → s < l.i → get_or l.counts.items s 0 ≡ max (get_or l.fn.counts.items s 0) (get_or l.others s 0);
  same : (s : ℕ) → l.i ≤ s → get_or l.counts.items s 0 ≡ get_or l.fn.counts.items s 0;
}
