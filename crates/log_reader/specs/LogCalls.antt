-- By which read calls a log is read, by what the source tells of each.
use Rattle.std.specs.Prelude.{◌⊎◌, ℕ, Option, None, Some, Result, Ok, Err}
use Rattle.json_lines.specs.ReadCalls.{CallOutcome, EndsBy, EndsInLine, FindsNoEnd, GoOnAtMost, GoOnForLines, IsEnd}
use Rattle.json_lines.specs.declared.read_call.TheConstants.{MAX_READ_CALLS}
use Rattle.log_reader.specs.declared.log_fault.LogFault.{LogFault}
use Rattle.log_reader.specs.declared.log_fault.LogFault.TheVariants.{Refused, Memory, Read}
use Rattle.log_reader.specs.declared.progress.Progress.{Progress}
use Rattle.log_reader.specs.declared.progress.Progress.TheVariants.{More, End}

module _ {S : Type 0} (called : S → CallOutcome → S → Type 0) where
  -- no call failed: after each reading goes on, or the last found the end
  abbrev pub NoneFailed : S → S → Type 0
  NoneFailed old new = GoOnAtMost called MAX_READ_CALLS old new ⊎ EndsBy called MAX_READ_CALLS IsEnd old new

  -- the calls for a line, by what comes of it
  abbrev pub ReadsLineBy : Result (Option Progress) LogFault → S → S → Type 0
  ReadsLineBy (Ok None) = GoOnAtMost called MAX_READ_CALLS
  ReadsLineBy (Ok (Some progress)) = EndsBy called MAX_READ_CALLS IsEnd
  ReadsLineBy (Err (Refused refusal)) = NoneFailed
  ReadsLineBy (Err Memory) = NoneFailed
  ReadsLineBy (Err Read) = FindsNoEnd called MAX_READ_CALLS

  -- the calls for so many lines and one further, by what comes of them
  abbrev pub ReadsLogBy : ℕ → Result Progress LogFault → S → S → Type 0
  ReadsLogBy lines (Ok More) = GoOnForLines called MAX_READ_CALLS lines
  ReadsLogBy lines (Ok (End torn)) = EndsInLine called MAX_READ_CALLS lines (EndsBy called MAX_READ_CALLS IsEnd)
  ReadsLogBy lines (Err (Refused refusal)) = EndsInLine called MAX_READ_CALLS lines NoneFailed
  ReadsLogBy lines (Err Memory) = EndsInLine called MAX_READ_CALLS lines NoneFailed
  ReadsLogBy lines (Err Read) = EndsInLine called MAX_READ_CALLS lines (FindsNoEnd called MAX_READ_CALLS)
