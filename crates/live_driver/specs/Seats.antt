-- Where clients find their sessions and leave what they played. (This project's profile.)
use Rattle.std.specs.Prelude.{ℕ, Option, Result}
use Rattle.live_recorder.specs.Sessions.{SessionState}
use Rattle.live_driver.specs.Clients.{PlayedState}
use Rattle.live_driver.specs.declared.drive_error.DriveError.{DriveError}

-- a session that waits for its client, and what the client of a session left
pub record SeatState (S C R : Type 0) : Type 0 where
  pub own : Option (SessionState C R)
  pub left : Option (ℕ × Result (PlayedState S C R) DriveError)
