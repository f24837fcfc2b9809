use Rattle.std.proofs.Common.{◌≡◌, ℕ, List, length}
use Rattle.std.specs.Prelude.{Option, Some, slice_get, map}
use Rattle.std.specs.List.{flat_map}
use Rattle.live_recorder.specs.Lanes.{Cells}
use Rattle.live_seals.specs.Steps.Tables.{SealedNotes, advised}
use Rattle.live_seals.specs.Steps.Sealing.{AreLanesFound, IsLaneSealed}
use Rattle.live_seals.proofs.sealing.seal_lanes.Given as goal

abbrev pub invariant-loop-s : goal.invariant-loop-s
invariant-loop-s g l = record {
  sessions : length l.sessions.items ≡ l.s;
  lanes : length l.lanes.items ≡ l.s;
  each : (s : ℕ) (es : List (_ × Option _)) (n : SealedNotes _ _) (lane : Cells) → slice_get (map (λ v. v.items) l.sessions.items) s ≡ Some es → slice_get l.lanes.items s ≡ Some n → slice_get l.looker.lanes.cells s ≡ Some lane → IsLaneSealed g.O.Recorded.fitting lane l.looker.receipts s es n;
  advised : l.advice.items ≡ flat_map advised l.lanes.items;
  found : AreLanesFound l.looker.looks l.looker.told l.looker.cap (map (λ v. v.items) l.sessions.items) l.lanes.items;
}
