use Rattle.std.specs.Prelude.{◌≡◌, ℕ, ◌<◌, length, slice_index_or}
use Rattle.judge_columns.proofs.words.clear.Given as goal

abbrev pub invariant-loop-i : goal.invariant-loop-i
invariant-loop-i l = record {
  size : length l.words.items ≡ length l.fn.words.items;
  zero : (n : ℕ) → n < l.i → slice_index_or l.words.items n 0 ≡ 0;
}
