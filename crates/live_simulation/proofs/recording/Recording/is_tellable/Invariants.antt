use Rattle.std.proofs.Common.{ℕ, ◌<◌, ◌≤◌, get_or, length}
use Rattle.live_simulation.specs.Steps.Recordings.{lane_of}
use Rattle.live_simulation.proofs.recording.Recording.is_tellable.Given as goal

-- the sessions so far ended as many operations as were told of
abbrev pub invariant-loop-s : goal.invariant-loop-s
invariant-loop-s g l = (t : ℕ) → t < l.s → get_or l.told t 0 ≤ length (lane_of l.self t).1
