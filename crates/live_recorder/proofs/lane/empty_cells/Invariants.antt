use Rattle.std.proofs.Common.{◌≡◌, length}
use Rattle.live_recorder.proofs.lane.empty_cells.Given as goal

abbrev pub invariant-loop-place : goal.invariant-loop-place
invariant-loop-place g l = length l.cells.items ≡ l._place
