-- Which histories can be driven, by the number of their sessions.
use Rattle.std.proofs.Common.{◌≡◌, ◌<◌, ◌≤◌, ◌∙◌, ℕ, length, arith, Option}
use Rattle.model_history.specs.History.{HistoryValue}
use Rattle.live_driver.specs.declared.drive_error.DriveError.{DriveError}
use Rattle.live_driver.specs.declared.drive_error.DriveError.TheVariants as drives
use Rattle.live_driver.specs.Drives.{CanDrive as CanDriveHistory, RefusesDrive}
use Rattle.app_engine.specs.Driving.{CanDrive, IsDriveError}
use Rattle.app_engine.specs.Failure.{drive_failure}

pub can_drive : {S C R : Type 0} (stop : Option ℕ) (h : HistoryValue S C R) (sessions : ℕ) → sessions ≡ length h.1 → CanDriveHistory stop h → CanDrive stop sessions
can_drive stop h sessions same can = record {
  some_session = let some : 0 < length h.1 = can.some_session in omega arith;
  stopping = λ s is. let there : s < length h.1 = can.stopping s is in omega arith;
}

pub refused_drive : {S C R : Type 0} (stop : Option ℕ) (h : HistoryValue S C R) (sessions : ℕ) (e : DriveError) → sessions ≡ length h.1 → RefusesDrive stop h e
    → IsDriveError stop sessions (drive_failure e)
refused_drive stop h sessions drives.BadLimits same refused = same ∙ refused
refused_drive stop h sessions drives.NoSuch same refused =
    let some : 0 < length h.1 = refused.0 in let away : length h.1 ≤ refused.1.0 = refused.1.2 in
    (omega arith, (refused.1.0, refused.1.1, omega arith))
refused_drive stop h sessions drives.Memory same refused = tt
refused_drive stop h sessions drives.ClockFull same refused = tt
refused_drive stop h sessions drives.CellGaveBack same refused = tt
