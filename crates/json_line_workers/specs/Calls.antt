-- By which calls the reader and the writer came to where they are, by what they tell of each.
use Rattle.std.specs.Prelude.{◌≡◌, ◌≢◌, ⊤, ℕ, Bool, true, false, Option, None, Some, Result, Ok, Err}
use Rattle.json_lines.specs.ReadCalls.{CallOutcome, CallsOnceAtMost, EndsBy, FindsNoEnd, GoOn, GoOnAtMost, GoesOn, IsEnd, IsFailure, ReadsOn}
use Rattle.json_lines.specs.WriteCalls.{FailsToTake, IsPassedOn, SinkCall}
use Rattle.json_lines.specs.declared.fault.Fault.{Fault}
use Rattle.json_lines.specs.declared.fault.Fault.TheVariants.{Memory, Read, Write}
use Rattle.json_lines.specs.declared.read_call.TheConstants.{MAX_READ_CALLS}
use Rattle.json_lines.specs.declared.writing.TheConstants.{MAX_WRITE_CALLS}
use Rattle.json_line_workers.specs.declared.held.Stop.{Stop}
use Rattle.json_line_workers.specs.declared.held.Stop.TheVariants.{Lines, TooLong, End}
use Rattle.json_line_workers.specs.declared.reading.Next.{Next}

-- reading stopped before the end of the stream
abbrev pub IsBefore : Stop → Type 0
IsBefore Lines = ⊤
IsBefore TooLong = ⊤
IsBefore End = ⊥

-- what is made of a read call: it found the end, it gave bytes or was interrupted, or the reader failed
abbrev pub MoreBy : CallOutcome → Result Bool Fault → Type 0
MoreBy outcome (Ok true) = IsEnd outcome
MoreBy outcome (Ok false) = GoesOn outcome
MoreBy outcome (Err Memory) = GoesOn outcome
MoreBy outcome (Err Read) = IsFailure outcome
MoreBy outcome (Err Write) = ⊥

module _ {S : Type 0} (called : S → CallOutcome → S → Type 0) where
  -- the read calls after which more can be read, and those that found the end
  abbrev pub LastBy : Bool → S → S → Type 0
  LastBy false = GoOnAtMost called MAX_READ_CALLS
  LastBy true = EndsBy called MAX_READ_CALLS IsEnd

  -- the read calls after which reading failed
  abbrev pub FaultBy : Fault → S → S → Type 0
  FaultBy Memory = ReadsOn called (CallsOnceAtMost called)
  FaultBy Read = FindsNoEnd called MAX_READ_CALLS
  FaultBy Write = λ old new. ⊥

  abbrev pub StopBy : Stop → S → S → Type 0
  StopBy Lines = GoOnAtMost called MAX_READ_CALLS
  StopBy TooLong = GoOnAtMost called MAX_READ_CALLS
  StopBy End = EndsBy called MAX_READ_CALLS IsEnd

  -- the same of what single functions return
  abbrev pub FillsBy : Result Stop Fault → S → S → Type 0
  FillsBy (Ok stop) = StopBy stop
  FillsBy (Err fault) = FaultBy fault

  abbrev pub PassesBy : Result (ℕ × Bool) Fault → S → S → Type 0
  PassesBy (Ok r) = LastBy r.1
  PassesBy (Err fault) = FaultBy fault

  abbrev pub HandsOutBy : Result Next Fault → S → S → Type 0
  HandsOutBy (Ok next) = LastBy next.last
  HandsOutBy (Err fault) = FaultBy fault

  -- the reader came from where it was first by calls after each of which but the last reading goes on; where lines are still to come, after the last
  -- too; the end was found by the last, and so was a failure
  pub record IsRead (first now : S) (over ended : Bool) (fault : Option Fault) : Type 0 where
    pub calls : ReadsOn called (CallsOnceAtMost called) first now
    pub on : over ≡ false → (fault ≡ None) × (n : ℕ) × GoOn called n first now
    pub end : ended ≡ true → ReadsOn called (EndsBy called MAX_READ_CALLS IsEnd) first now
    pub failed : fault ≡ Some Read → ReadsOn called (FindsNoEnd called MAX_READ_CALLS) first now

-- the writer came from where it was first by calls of which none failed, or of which the last did where that is the fault
pub record IsWritten {S : Type 0} (called : S → SinkCall → S → Type 0) (first now : S) (fault : Option Fault) : Type 0 where
  pub passed : fault ≢ Some Write → IsPassedOn called first now
  pub failed : fault ≡ Some Write → FailsToTake called MAX_WRITE_CALLS first now
