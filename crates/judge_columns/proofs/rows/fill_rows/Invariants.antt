use Rattle.std.specs.Prelude.{◌≡◌, ℕ, ◌<◌, [], length, slice_index_or}
use Rattle.judge_columns.proofs.rows.fill_rows.Given as goal

abbrev pub invariant-loop-i : goal.invariant-loop-i
invariant-loop-i l = record {
  size : length l.rows.items ≡ length l.initial.rows.items;
  each : (n : ℕ) → n < l.i → slice_index_or l.rows.items n [] ≡ l.row;
}
