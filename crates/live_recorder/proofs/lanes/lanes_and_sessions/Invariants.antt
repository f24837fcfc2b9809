use Rattle.std.proofs.Common.{◌≡◌, length}
use Rattle.live_recorder.specs.Recorders.{AreLanes, cells_of}
use Rattle.live_recorder.proofs.lanes.lanes_and_sessions.Given as goal

abbrev pub invariant-loop-s : goal.invariant-loop-s
invariant-loop-s g l = record {
  many : length l.lanes.items ≡ l.s;
  lanes : AreLanes l.fn.cap (cells_of l.lanes.items) l.sessions.items;
}
