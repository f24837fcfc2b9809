use Rattle.std.proofs.Common.{◌≡◌, ℕ, ◌<◌, ◌≤◌, length}
use Rattle.std.specs.Prelude.{Some, slice_get}
use Rattle.live_recorder.specs.Lanes.{Cells}
use Rattle.live_seals.proofs.lane_looker.most_places.Given as goal

abbrev pub invariant-loop-s : goal.invariant-loop-s
invariant-loop-s g l = (s : ℕ) (lane : Cells) → s < l.s → slice_get l.lanes.cells s ≡ Some lane → length lane.calls ≤ l.most
