use Rattle.std.proofs.Common.{◌≡◌, ◌+◌, ℕ, length}
use Rattle.std.specs.Prelude.{Result, Some, slice_get, vec_len}
use Rattle.live_driver.specs.Clients.{PlayedState}
use Rattle.live_driver.specs.declared.drive_error.DriveError.{DriveError}
use Rattle.live_driver.proofs.seating.read_seats.Given as goal

abbrev pub invariant-loop-seat : goal.invariant-loop-seat
invariant-loop-seat g l = record {
  left : (s : ℕ) (p : Result (PlayedState g.row.O-Start.Denot g.row.O-Call.Denot g.row.O-Ret.Denot) DriveError) → slice_get l.results.items s ≡ Some p → g.K.RunName.left s p;
  many : length l.results.items + length l.seats.items ≡ length l.initial.seats.items;
}

abbrev pub decreases-loop-seat : goal.decreases-loop-seat
decreases-loop-seat g l = vec_len l.seats
