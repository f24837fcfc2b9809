use Rattle.std.proofs.Common.{◌≡◌, ℕ, [], length}
use Rattle.std.specs.Prelude.{Some, slice_get}
use Rattle.live_recorder.specs.Lanes.{Cells}
use Rattle.live_seals.specs.Steps.Tables.{TableState, IsTable, TellsLooks}
use Rattle.live_seals.proofs.lane_looker.tables_of.Given as goal

abbrev pub invariant-loop-s : goal.invariant-loop-s
invariant-loop-s g l = record {
  many : length l.tables.items ≡ l.s;
  each : (s : ℕ) (lane : Cells) (t : TableState _ _) → slice_get l.lanes.cells s ≡ Some lane → slice_get l.tables.items s ≡ Some t → IsTable lane t;
  fresh : (s : ℕ) (t : TableState _ _) → slice_get l.tables.items s ≡ Some t → TellsLooks [] s t;
}
