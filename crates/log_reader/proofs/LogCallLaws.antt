-- The read calls for a line more of a log.
use Rattle.std.proofs.Common.{◌≢◌, ◌+◌, ℕ, List, Option, Some, Ok, Err, refl, add-one, arith, inl, inr}
use Rattle.json_lines.specs.ReadCalls.{CallOutcome, FindsBy, GoOnAtMost, GoOnForLines}
use Rattle.json_lines.proofs.ReadCallLaws.{go_on_none}
use Rattle.json_lines.specs.declared.fault.Fault.{Fault}
use Rattle.json_lines.specs.declared.fault.Fault.TheVariants as faults
use Rattle.json_lines.specs.declared.found.Found.{Found}
use Rattle.json_lines.specs.declared.found.Found.TheVariants as found
use Rattle.json_lines.specs.declared.read_call.TheConstants.{MAX_READ_CALLS}
use Rattle.log_reader.specs.BookSteps.{IsLineFault, IsRestFault}
use Rattle.log_reader.specs.Faults.{IsLogFault}
use Rattle.log_reader.specs.LogCalls.{NoneFailed, ReadsLineBy, ReadsLogBy}
use Rattle.log_reader.specs.Logs.{Log}
use Rattle.log_reader.specs.ReadSteps.{ReadsLine}
use Rattle.log_reader.specs.Readings.{Reading}
use Rattle.log_reader.specs.declared.log_fault.LogFault.{LogFault}
use Rattle.log_reader.specs.declared.log_fault.LogFault.TheVariants.{Refused, Memory, Read}
use Rattle.log_reader.specs.declared.progress.Progress.{Progress}
use Rattle.log_reader.specs.declared.progress.Progress.TheVariants.{More, End}

-- a line of which something comes is the last
pub no_more : (before after : Option (List ℕ)) (old new : Reading) (progress : Progress) → ReadsLine before after old new (Some progress) → progress ≢ More
no_more before after old new More line = absurd line
no_more before after old new (End torn) line = λ is. absurd cc

module _ {S : Type 0} (called : S → CallOutcome → S → Type 0) where
  -- ---- one line

  pub found_calls : (f : Found) (old new : S) → FindsBy called MAX_READ_CALLS (Ok f) old new → NoneFailed called old new
  found_calls found.Line old new by = inl by
  found_calls found.Rest old new by = inr by
  found_calls found.TooLong old new by = inl by
  found_calls found.End old new by = inr by

  pub no_line_calls : (fault : Fault) (is : LogFault) (old new : S) → IsLogFault fault is → FindsBy called MAX_READ_CALLS (Err fault) old new → ReadsLineBy called (Err is) old new
  no_line_calls faults.Memory is old new same by = rw same (inl by)
  no_line_calls faults.Read is old new same by = rw same by
  no_line_calls faults.Write is old new same by = absurd by

  pub line_fault_calls : (log : Log) (line : List ℕ) (n : ℕ) (fault : LogFault) (old new : S) → IsLineFault log line n fault → NoneFailed called old new
      → ReadsLineBy called (Err fault) old new
  line_fault_calls log line n (Refused refusal) old new is by = by
  line_fault_calls log line n Memory old new is by = by
  line_fault_calls log line n Read old new is by = absurd is

  pub rest_fault_calls : (log : Log) (line : List ℕ) (n : ℕ) (fault : LogFault) (old new : S) → IsRestFault log line n fault → NoneFailed called old new
      → ReadsLineBy called (Err fault) old new
  rest_fault_calls log line n (Refused refusal) old new is by = by
  rest_fault_calls log line n Memory old new is by = by
  rest_fault_calls log line n Read old new is by = absurd is

  -- ---- several lines

  pub lines_none : (s : S) → GoOnForLines called MAX_READ_CALLS 0 s s
  unfolding GoOnForLines
  lines_none s = refl

  pub lines_more : (lines : ℕ) (old between new : S) → GoOnForLines called MAX_READ_CALLS lines old between → GoOnAtMost called MAX_READ_CALLS between new
      → GoOnForLines called MAX_READ_CALLS (lines + 1) old new
  unfolding GoOnForLines
  lines_more lines old between new before on = rw add-one (between, before, on)

  -- `ReadsLine` is what is read of the line, and says that its progress is the end
  pub lines_end : (lines : ℕ) (progress : Progress) (old between new : S) → progress ≢ More → GoOnForLines called MAX_READ_CALLS lines old between
      → ReadsLineBy called (Ok (Some progress)) between new → ReadsLogBy called lines (Ok progress) old new
  lines_end lines More old between new other before by = absurd (other refl)
  lines_end lines (End torn) old between new other before by = (between, before, by)

  pub lines_fault : (lines : ℕ) (fault : LogFault) (old between new : S) → GoOnForLines called MAX_READ_CALLS lines old between
      → ReadsLineBy called (Err fault) between new → ReadsLogBy called lines (Err fault) old new
  lines_fault lines (Refused refusal) old between new before by = (between, before, by)
  lines_fault lines Memory old between new before by = (between, before, by)
  lines_fault lines Read old between new before by = (between, before, by)

  pub lines_stop : (lines : ℕ) (old new : S) → GoOnForLines called MAX_READ_CALLS lines old new → ReadsLogBy called lines (Err Memory) old new
  lines_stop lines old new before = (new, before, inl (0, omega arith, go_on_none called new))
