-- What a fault of reading or writing is blamed on: on a stream that tells of a call that failed, or of as many calls as are made at most.
use Rattle.std.specs.Prelude.{◌≤◌, ◌+◌, ◌⊎◌, ⊤, ℕ, Bool, true, false}
use Rattle.json_lines.specs.declared.fault.Fault.{Fault}
use Rattle.json_lines.specs.declared.fault.Fault.TheVariants as faults
use Rattle.json_lines.specs.declared.read_call.TheConstants.{MAX_READ_CALLS}
use Rattle.json_lines.specs.declared.writing.TheConstants.{MAX_WRITE_CALLS}
use Rattle.json_lines.specs.ReadCalls.{CallOutcome, Calls, IsFailure}
use Rattle.json_lines.specs.WriteCalls.{HasFailed, SinkCall, WriteOn}
use Rattle.app_engine.specs.declared.failure.RunError.{RunError}
use Rattle.app_engine.specs.declared.failure.RunError.TheVariants as failures
use Rattle.app_logs.specs.declared.failure.LogError.{LogError}
use Rattle.app_logs.specs.declared.failure.LogError.TheVariants as log_failures
use Rattle.app_pages.specs.declared.failure.PageError.{PageError}
use Rattle.app_pages.specs.declared.failure.PageError.TheVariants as page_failures

-- how many calls may give bytes of a file that were read before, to find what is asked for on it
abbrev pub most_ahead : ℕ
most_ahead = 65535

-- by how many calls may have given bytes that were read before
module _ (ahead : ℕ) {S : Type 0} (called : S → CallOutcome → S → Type 0) where
  -- a read call failed, and was not interrupted
  abbrev pub ReadCallFails : Type 0
  ReadCallFails = (old : S) × (new : S) × (outcome : CallOutcome) × IsFailure outcome × called old outcome new

  -- as many read calls were made as are made at most
  abbrev pub ReadCallsRunOut : Type 0
  ReadCallsRunOut = (old : S) × (new : S) × (calls : ℕ) × (MAX_READ_CALLS ≤ calls + ahead) × Calls called calls old new

  -- a reader that tells this of its calls may be blamed for a read fault
  abbrev pub ReadingFails : Type 0
  ReadingFails = ReadCallFails ⊎ ReadCallsRunOut

module _ {S : Type 0} (called : S → SinkCall → S → Type 0) where
  -- a write call failed or took nothing, or what was written could not be passed on
  abbrev pub WriteCallFails : Type 0
  WriteCallFails = (old : S) × (new : S) × (call : SinkCall) × HasFailed call × called old call new

  -- as many write calls were made as are made at most
  abbrev pub WriteCallsRunOut : Type 0
  WriteCallsRunOut = (old : S) × (new : S) × (calls : ℕ) × (MAX_WRITE_CALLS ≤ calls) × WriteOn called calls old new

  -- a writer that tells this of its calls may be blamed for a write fault
  abbrev pub WritingFails : Type 0
  WritingFails = WriteCallFails ⊎ WriteCallsRunOut

-- a fault of the reader or of the writer is one that it may be blamed for
abbrev pub Blames : Type 0 → Type 0 → Fault → Type 0
Blames reading writing faults.Read = reading
Blames reading writing faults.Write = writing
Blames reading writing faults.Memory = ⊤

-- nothing is known of a writer whose lines are dressed
abbrev pub where_plain : Bool → Type 0 → Type 0
where_plain true writing = writing
where_plain false writing = ⊤

-- a run may end so, by which faults there may be
module _ (may : Fault → Type 0) where
  abbrev pub MayFail : RunError → Type 0
  MayFail failures.ReadFault = may faults.Read
  MayFail failures.WriteFault = may faults.Write
  MayFail _ = ⊤

  abbrev pub MayFailOnLog : LogError → Type 0
  MayFailOnLog log_failures.ReadFault = may faults.Read
  MayFailOnLog log_failures.WriteFault = may faults.Write
  MayFailOnLog _ = ⊤

  abbrev pub MayFailOnPage : PageError → Type 0
  MayFailOnPage (page_failures.Log error) = MayFailOnLog error
  MayFailOnPage page_failures.TooLong = ⊤
