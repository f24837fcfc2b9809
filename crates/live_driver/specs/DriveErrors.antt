-- The refusals of a drive, and their numbers.
use Rattle.std.specs.Prelude.{ℕ}
use Rattle.live_driver.specs.declared.drive_error.DriveError.{DriveError}
use Rattle.live_driver.specs.declared.drive_error.DriveError.TheVariants.{BadLimits, NoSuch, Memory, ClockFull, CellGaveBack}

abbrev pub number_of : DriveError → ℕ
number_of BadLimits = 10
number_of NoSuch = 26
number_of Memory = 8
number_of ClockFull = 16
number_of CellGaveBack = 13
