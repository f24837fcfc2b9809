use Rattle.std.proofs.Common.{ℕ, ◌<◌, ◌+◌, length}
use Rattle.std.specs.Prelude.{slice_get}
use Rattle.live_recorder.specs.Sessions.{begun}
use Rattle.live_seals.specs.Steps.Comparing.{CallAgrees}
use Rattle.live_seals.proofs.comparing.compare_calls.Given as goal

abbrev pub invariant-loop-i : goal.invariant-loop-i
invariant-loop-i g l = (i : ℕ) → i < l.i → CallAgrees l.lane.calls i (slice_get (begun l.session.done l.session.pending) (length l.lane.returns + i))
