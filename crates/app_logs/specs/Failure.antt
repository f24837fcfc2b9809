-- What the program says of a log that had no answer: its exit status, and its lines on standard error.
use Rattle.std.specs.Prelude.{ℕ, List, ◌++◌, codes, decimal}
use Rattle.app_engine.specs.declared.failure.RunError.{RunError}
use Rattle.app_engine.specs.declared.failure.RunError.TheVariants as failures
use Rattle.log_reader.specs.declared.log_fault.LogFault.{LogFault}
use Rattle.log_reader.specs.declared.log_fault.LogFault.TheVariants as faults
use Rattle.log_reader.specs.declared.refusal.Reason.{Reason}
use Rattle.log_reader.specs.declared.refusal.Reason.TheVariants.{NotJson, TooLong, NoForm, LateStart, CallPending, NothingPending, WrongEnd, LateOrder}
use Rattle.log_reader.specs.declared.refusal.Refusal.{Refusal}
use Rattle.log_reader.specs.Codes.{code_of}
use Rattle.app_logs.specs.declared.failure.LogError.{LogError}
use Rattle.app_logs.specs.declared.failure.LogError.TheVariants.{Refused, Memory, ReadFault, WriteFault}

-- the error of a log for a fault of its reader, and for a failure of the engine, which refuses no history of a log
abbrev pub error_of : LogFault → LogError
error_of (faults.Refused refusal) = Refused refusal
error_of faults.Memory = Memory
error_of faults.Read = ReadFault

abbrev pub error_by : RunError → LogError
error_by failures.WriteFault = WriteFault
error_by _ = Memory

-- the exit status: 1 for a refused line, 3 for a fault of the reader or the writer, 4 for want of memory
abbrev pub status_for : LogError → ℕ
status_for (Refused refusal) = 1
status_for Memory = 4
status_for ReadFault = 3
status_for WriteFault = 3

-- what is wrong with a line
abbrev pub words_for : Reason → List ℕ
words_for NotJson = codes "no JSON text in UTF-8"
words_for TooLong = codes "more than 1000000 bytes"
words_for NoForm = codes "no event: wanted is [\"start\",KEY,VALUE], [\"begin\",CLIENT,CALL], [\"end\",CLIENT,ANSWER], [\"fail\",CLIENT] or [\"lost\",CLIENT], where CALL is [\"w\",KEY,VALUE], [\"r\",KEY] or [\"d\",KEY]"
words_for LateStart = codes "a start after the first begin, or a second start of its key"
words_for CallPending = codes "a begin of a client that has a call pending"
words_for NothingPending = codes "the end of a call of a client that has none pending"
words_for WrongEnd = codes "an answer that the pending call does not have: \"ok\" ends a write or a delete, a value or null ends a read"
words_for LateOrder = codes "the order of time is said after an event, or twice: [\"order\",\"time\"] is the first event of a log"

-- `refused N LINE`, and in a second line what is wrong there, with its details
abbrev pub refusal_lines : Refusal → List ℕ → List ℕ
refusal_lines refusal details =
    codes "refused " ++ (decimal (code_of refusal.reason) ++ (codes " " ++ (decimal refusal.line ++ (codes "\nline " ++ (decimal refusal.line ++ (codes ": " ++ (words_for refusal.reason ++ details)))))))

-- the lines on standard error, without a line feed at the end
abbrev pub lines_for : LogError → List ℕ → List ℕ
lines_for (Refused refusal) details = refusal_lines refusal details
lines_for Memory details = codes "no memory"
lines_for ReadFault details = codes "read fault"
lines_for WriteFault details = codes "write fault"
