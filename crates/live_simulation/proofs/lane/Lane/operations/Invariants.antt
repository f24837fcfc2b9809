use Rattle.std.proofs.Common.{◌≡◌, take}
use Rattle.live_seals.specs.Runs.{operations}
use Rattle.live_simulation.proofs.lane.Lane.operations.Given as goal

-- the operations so far are those of the first calls
abbrev pub invariant-loop-i : goal.invariant-loop-i
invariant-loop-i g l = l.ops.items ≡ operations (take l.i l.self.0) (take l.returns l.self.1)
