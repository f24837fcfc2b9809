use Rattle.std.specs.Prelude.{◌≡◌, ℕ, ◌<◌, length, slice_index_or}
use Rattle.judge_columns.proofs.passes.fill.Given as goal

abbrev pub invariant-loop-i : goal.invariant-loop-i
invariant-loop-i l = record {
  size : length l.numbers.items ≡ length l.initial.numbers.items;
  each : (n : ℕ) → n < l.i → slice_index_or l.numbers.items n 0 ≡ l.number;
}
