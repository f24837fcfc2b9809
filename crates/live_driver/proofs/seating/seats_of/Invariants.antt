use Rattle.std.proofs.Common.{◌≡◌, ◌+◌, ℕ, length}
use Rattle.std.specs.Prelude.{Some, slice_get, vec_len}
use Rattle.live_recorder.specs.Sessions.{SessionState}
use Rattle.live_driver.proofs.seating.seats_of.Given as goal

abbrev pub invariant-loop-own : goal.invariant-loop-own
invariant-loop-own g l = record {
  ready : (s : ℕ) (own : SessionState g.row.O-Call.Denot g.row.O-Ret.Denot) → slice_get l.sessions.items s ≡ Some own → g.K.RunName.ready own;
  many : length l.seats.items + length l.sessions.items ≡ length l.initial.sessions.items;
}

abbrev pub decreases-loop-own : goal.decreases-loop-own
decreases-loop-own g l = vec_len l.sessions
