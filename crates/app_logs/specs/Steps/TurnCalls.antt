-- By which calls a turn of judging a log while it is read is made, by what the source and the writer tell of each.
use Rattle.std.specs.Prelude.{◌≡◌, ◌⊎◌, ◌<◌, ℕ, zero, suc, Result, Ok, Err}
use Rattle.json_lines.specs.ReadCalls.{CallOutcome, GoOnForLines}
use Rattle.json_lines.specs.WriteCalls.{PassesOn, SinkCall}
use Rattle.json_lines.specs.declared.read_call.TheConstants.{MAX_READ_CALLS}
use Rattle.log_reader.specs.LogCalls.{ReadsLogBy}
use Rattle.log_reader.specs.declared.log_fault.LogFault.{LogFault}
use Rattle.log_reader.specs.declared.progress.Progress.{Progress}
use Rattle.app_logs.specs.ReadCalls.{FailsBy, FindsLogEnd}
use Rattle.app_logs.specs.declared.failure.LogError.{LogError}
use Rattle.app_logs.specs.declared.following.Rest.{Rest}
use Rattle.app_logs.specs.declared.following.Rest.TheVariants.{Unread, Read}
use Rattle.app_logs.specs.declared.turn.Turn.{Turn}
use Rattle.app_logs.specs.declared.turn.Turn.TheVariants.{On, Stopped, Ended}

module _ {S : Type 0} (called : S → CallOutcome → S → Type 0) where
  -- some lines were read, and more can be
  abbrev pub GoesOnForLines : S → S → Type 0
  GoesOnForLines old new = (lines : ℕ) × GoOnForLines called MAX_READ_CALLS lines old new

  -- the read calls of a turn, by what it comes to
  abbrev pub TurnsBy : Result Turn LogError → S → S → Type 0
  TurnsBy (Ok On) = GoesOnForLines
  TurnsBy (Ok (Stopped followed)) = GoesOnForLines
  TurnsBy (Ok (Ended followed)) = FindsLogEnd called
  TurnsBy (Err error) = FailsBy called error

  -- those by which the rest is read, where it is
  abbrev pub ReadsRestBy : Rest → S → S → Type 0
  ReadsRestBy Unread old new = old ≡ new
  ReadsRestBy Read old new = (lines : ℕ) × (result : Result Progress LogFault) × ReadsLogBy called lines result old new

module _ {S : Type 0} (called : S → SinkCall → S → Type 0) where
  -- a line was written and passed on, or none was, where so many events were judged before
  abbrev pub PassesLast : ℕ → S → S → Type 0
  PassesLast judged old new = PassesOn called old new ⊎ ((0 < judged) × (old ≡ new))

  -- the lines on so many cuts were written and passed on
  abbrev pub PassesCuts : ℕ → S → S → Type 0
  PassesCuts zero old new = old ≡ new
  PassesCuts (suc count) old new = PassesOn called old new
