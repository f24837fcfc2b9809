-- What the program says of a run: its exit status, and its line on standard error.
use Rattle.std.specs.Prelude.{ℕ, List, ◌++◌, codes, decimal, Result, Ok, Err}
use Rattle.app_engine.specs.declared.failure.RunError.{RunError}
use Rattle.app_engine.specs.declared.failure.RunError.TheVariants.{History, Script, BadCertificate, ShapeMismatch, NotThatPattern, BadLimits, NoSuch, TooLong, Memory, ReadFault, WriteFault}
use Rattle.model_history.specs.declared.op_id.OpId.{OpId}
use Rattle.json_histories.specs.declared.read_error.ReadError.{ReadError}
use Rattle.json_histories.specs.declared.read_error.ReadError.TheVariants.{BadOp, ReturnAfterUnknown, Memory as NoMemory}
use Rattle.json_histories.specs.Refusals.{number_of}
use Rattle.cert_check.specs.declared.cert_error.CertError.{CertError}
use Rattle.cert_check.specs.declared.cert_error.CertError.TheVariants as certificates
use Rattle.live_driver.specs.declared.drive_error.DriveError.{DriveError}
use Rattle.live_driver.specs.declared.drive_error.DriveError.TheVariants as drives
use Rattle.json_lines.specs.declared.fault.Fault.{Fault}
use Rattle.json_lines.specs.declared.fault.Fault.TheVariants as streams
use Rattle.live_script.specs.declared.script_error.ScriptError.{ScriptError}
use Rattle.live_script.specs.declared.script_error.ScriptError.TheVariants as scripts
use Rattle.live_script.specs.Refusals.{number_of as script_number}

-- how a run fails whose input is refused: of want of memory alone it says so itself
abbrev pub failure_of : ReadError → RunError
failure_of NoMemory = Memory
failure_of refusal = History refusal

-- how a run fails whose certificate has no form
abbrev pub certificate_failure : CertError → RunError
certificate_failure certificates.Memory = Memory
certificate_failure certificates.BadCertificate = BadCertificate

-- how a run fails whose script is refused
abbrev pub script_failure : ScriptError → RunError
script_failure scripts.Memory = Memory
script_failure refusal = Script refusal

-- how a run fails whose store is not driven: what else than these two can come ends as want of memory does
abbrev pub drive_failure : DriveError → RunError
drive_failure drives.BadLimits = BadLimits
drive_failure drives.NoSuch = NoSuch
drive_failure _ = Memory

-- how a run fails whose lines are not answered to the end
abbrev pub stream_failure : Fault → RunError
stream_failure streams.Memory = Memory
stream_failure streams.Read = ReadFault
stream_failure streams.Write = WriteFault

-- the exit status of a refused history: 4 where memory ran out, and else 1
abbrev pub refusal_status : ReadError → ℕ
refusal_status NoMemory = 4
refusal_status _ = 1

-- the exit status of a refused script
abbrev pub script_status : ScriptError → ℕ
script_status scripts.Memory = 4
script_status _ = 1

-- the exit status of a failed run: 1 for a refusal, 3 for a fault of the reader or the writer, 4 for want of memory
abbrev pub failure_status : RunError → ℕ
failure_status (History refusal) = refusal_status refusal
failure_status (Script refusal) = script_status refusal
failure_status BadCertificate = 1
failure_status ShapeMismatch = 1
failure_status NotThatPattern = 1
failure_status BadLimits = 1
failure_status NoSuch = 1
failure_status TooLong = 1
failure_status Memory = 4
failure_status ReadFault = 3
failure_status WriteFault = 3

-- the exit status of a run of which nothing was expected: 0 where it was answered
abbrev pub status_for : Result Unit RunError → ℕ
status_for (Ok _) = 0
status_for (Err e) = failure_status e

-- `refused N`, and `refused N s.i`
abbrev pub refused : ℕ → List ℕ
refused number = codes "refused " ++ decimal number

abbrev pub refused_at : ℕ → OpId → List ℕ
refused_at number op =
    codes "refused " ++ (decimal number ++ (codes " " ++ (decimal op.session ++ (codes "." ++ decimal op.index))))

-- the line for a refused history: the number of the refusal, and the operation at fault where there is one
abbrev pub refusal_line : ReadError → List ℕ
refusal_line (BadOp op) = refused_at 4 op
refusal_line (ReturnAfterUnknown op) = refused_at 5 op
refusal_line NoMemory = codes "no memory"
refusal_line refusal = refused (number_of refusal)

-- the line for a refused script: the number of the refusal, and the place of the step at fault where there is one
abbrev pub script_line : ScriptError → List ℕ
script_line (scripts.BadStep i) = codes "refused " ++ (decimal 28 ++ (codes " " ++ decimal i))
script_line scripts.Memory = codes "no memory"
script_line refusal = refused (script_number refusal)

-- the line for a failed run
abbrev pub line_for : RunError → List ℕ
line_for (History refusal) = refusal_line refusal
line_for (Script refusal) = script_line refusal
line_for BadCertificate = codes "refused 20"
line_for ShapeMismatch = codes "refused 21"
line_for NotThatPattern = codes "refused 23"
line_for BadLimits = codes "refused 10"
line_for NoSuch = codes "refused 26"
line_for TooLong = codes "refused 9"
line_for Memory = codes "no memory"
line_for ReadFault = codes "read fault"
line_for WriteFault = codes "write fault"

-- what can come of reading the input, beside the input
abbrev pub IsInputError : RunError → Type 0
IsInputError TooLong = Unit {0}
IsInputError ReadFault = Unit {0}
IsInputError Memory = Unit {0}
IsInputError _ = ⊥
