use Rattle.std.specs.Prelude.{◌≡◌, ◌<◌, ℕ, Some, false, length, slice_get, slice_index_or, IsTrue}
use Rattle.judge_workers.specs.Numbers.{HasNumber}
use Rattle.judge_workers.proofs.rest.are_there.Given as goal

abbrev pub invariant-loop-i : goal.invariant-loop-i
invariant-loop-i l = record {
  size : length l.are.items ≡ l.count;
  each : (n : ℕ) → IsTrue (slice_index_or l.are.items n false) → HasNumber l.claimed n;
  marked : (j n : ℕ) → j < l.i → slice_get l.claimed j ≡ Some n → n < l.count → IsTrue (slice_index_or l.are.items n false);
}
