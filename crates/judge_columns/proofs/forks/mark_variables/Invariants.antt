use Rattle.std.specs.Prelude.{◌≡◌, ◌↔◌, ◌+◌, ◌<◌, ℕ, Some, length, slice_get, slice_index_or}
use Rattle.judge_columns.specs.Words.{HasBitAt}
use Rattle.judge_columns.proofs.forks.mark_variables.Given as goal

abbrev pub invariant-loop-bit : goal.invariant-loop-bit
invariant-loop-bit l = record {
  size : length l.words.items ≡ l.index.bound;
  marked : (x k : ℕ) → HasBitAt l.words.items x k
      ↔ ((k < l.bit) × ((n : ℕ) × (slice_get l.writes (l.from + k) ≡ Some n) × (slice_index_or l.index.variables n 0 ≡ x)));
}
