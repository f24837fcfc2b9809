use Rattle.std.proofs.Common.{◌≡◌, ◌<◌, ℕ}
use Rattle.std.specs.Prelude.{Some, slice_get}
use Rattle.live_seals.specs.Seals.{SealState}
use Rattle.live_driver.specs.Clients.{HasCallsOf}
use Rattle.live_driver.proofs.first_calls.check_each.Given as goal

abbrev pub invariant-loop-j : goal.invariant-loop-j
invariant-loop-j g l = (j : ℕ) (x : SealState g.row.O-Start.Denot g.row.O-Call.Denot g.row.O-Ret.Denot) → j < l.j → slice_get l.seals.items j ≡ Some x → HasCallsOf l.run.input.now l.sessions.items x.history
