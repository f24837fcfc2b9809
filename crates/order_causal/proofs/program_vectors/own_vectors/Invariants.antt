use Rattle.std.proofs.Common.{◌≡◌, ◌≢◌, ℕ, length, get_or}
use Rattle.order_causal.specs.Steps.Gathered.{AreListsUpTo}
use Rattle.order_causal.specs.ProgramOrder.{IsOwnVector}
use Rattle.order_causal.proofs.program_vectors.own_vectors.Given as goal

-- the operations so far have their vectors, and the counts are those of the last of them
abbrev pub invariant-loop-index : goal.invariant-loop-index
invariant-loop-index g l = record {
  so_far : AreListsUpTo (IsOwnVector (length l.h.1)) l.session l.index l.vectors;
  size : length l.counts.items ≡ length l.h.1;
  others : (s : ℕ) → s ≢ l.session → get_or l.counts.items s 0 ≡ 0;
}
