use Rattle.std.proofs.Common.{◌≡◌, ◌<◌, ℕ}
use Rattle.std.specs.Prelude.{Some, slice_get}
use Rattle.live_recorder.specs.Sessions.{SessionState}
use Rattle.live_driver.specs.Clients.{HasFirstCalls}
use Rattle.live_driver.proofs.first_calls.check_sessions.Given as goal

abbrev pub invariant-loop-j : goal.invariant-loop-j
invariant-loop-j g l = (j : ℕ) (own : SessionState g.row.O-Call.Denot g.row.O-Ret.Denot) → j < l.j → slice_get l.sessions.items j ≡ Some own → HasFirstCalls l.run.input.now l.sealed.history own.lane
