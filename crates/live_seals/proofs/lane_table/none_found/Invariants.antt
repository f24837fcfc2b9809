use Rattle.std.proofs.Common.{◌≡◌, ℕ, length}
use Rattle.std.specs.Prelude.{Some, None, slice_get}
use Rattle.live_seals.proofs.lane_table.none_found.Given as goal

abbrev pub invariant-loop-place : goal.invariant-loop-place
invariant-loop-place g l = record {
  many : length l.found.items ≡ l._place;
  none : (i : ℕ) (x : _) → slice_get l.found.items i ≡ Some x → x ≡ None;
}
