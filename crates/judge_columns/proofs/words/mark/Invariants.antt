use Rattle.std.specs.Prelude.{◌≡◌, ◌↔◌, ℕ, ◌+◌, ◌<◌, Some, length, slice_get}
use Rattle.judge_columns.specs.Words.{HasBitAt}
use Rattle.judge_columns.proofs.words.mark.Given as goal

abbrev pub invariant-loop-bit : goal.invariant-loop-bit
invariant-loop-bit l = record {
  size : length l.words.items ≡ length l.fn.words.items;
  marked : (n k : ℕ) → HasBitAt l.words.items n k ↔ ((k < l.bit) × (slice_get l.places (l.from + k) ≡ Some n));
}
