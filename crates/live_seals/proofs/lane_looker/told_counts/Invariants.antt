use Rattle.std.proofs.Common.{◌≡◌, ℕ, ◌<◌, ◌≤◌, length, get_or}
use Rattle.std.specs.Prelude.{Some, slice_get}
use Rattle.live_recorder.specs.Lanes.{Cells}
use Rattle.live_recorder.specs.Sessions.{ReceiptState}
use Rattle.live_seals.proofs.lane_looker.told_counts.Given as goal

abbrev pub invariant-loop-s : goal.invariant-loop-s
invariant-loop-s g l = record {
  many : length l.told.items ≡ l.s;
  most : (j : ℕ) (r : ReceiptState _ _) → slice_get l.receipts j ≡ Some r → r.lane < l.s → length r.operations ≤ get_or l.told.items r.lane 0;
  reached : (s : ℕ) → 0 < get_or l.told.items s 0 → (j : ℕ) × (r : ReceiptState _ _) × (slice_get l.receipts j ≡ Some r) × (r.lane ≡ s) × (length r.operations ≡ get_or l.told.items s 0);
  within : (s : ℕ) (lane : Cells) → slice_get l.lanes.cells s ≡ Some lane → get_or l.told.items s 0 ≤ length lane.calls;
}
