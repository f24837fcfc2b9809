-- How a reading of a source ends, by what the source tells of each read call: the states before and after it, and its outcome.
use Rattle.std.specs.Prelude.{◌≡◌, ◌+◌, ◌<◌, ◌⊎◌, ℕ, zero, suc, Result, Ok, Err}
use Rattle.std.specs.IoError.{error_kind}
use Rattle.std.specs.declared.io.ErrorKind.TheVariants.{Interrupted}
use Rattle.json_lines.specs.ReadCalls.{CallOutcome, GoesOn, IsEnd, IsFailure}
use Rattle.app_engine.specs.declared.failure.RunError.{RunError}
use Rattle.app_engine.specs.declared.failure.RunError.TheVariants.{TooLong, Memory, ReadFault}
use Rattle.app_engine.specs.declared.read_call.Given.{Given}
use Rattle.app_engine.specs.declared.read_call.Given.TheVariants.{Bytes, Nothing, End}

-- it gave bytes
abbrev pub GivesBytes : CallOutcome → Type 0
GivesBytes (Ok count) = 0 < count
GivesBytes (Err e) = ⊥

-- it was interrupted
abbrev pub IsInterrupted : CallOutcome → Type 0
IsInterrupted (Ok count) = ⊥
IsInterrupted (Err e) = error_kind e ≡ Interrupted

-- what is made of a read call: it found the end, it gave bytes or was interrupted, the reader failed, or the bytes could not be kept
abbrev pub CameTo : CallOutcome → Result Given RunError → Type 0
CameTo outcome (Ok End) = IsEnd outcome
CameTo outcome (Ok Bytes) = GivesBytes outcome
CameTo outcome (Ok Nothing) = IsInterrupted outcome
CameTo outcome (Err ReadFault) = IsFailure outcome
CameTo outcome (Err TooLong) = GoesOn outcome
CameTo outcome (Err Memory) = GoesOn outcome
CameTo outcome (Err _) = ⊥

-- how many read calls in a row brought no byte, once one more is made after so many
abbrev pub idle_after : CallOutcome → ℕ → ℕ
idle_after (Ok count) before = 0
idle_after (Err e) before = before + 1

module _ {S : Type 0} (called : S → CallOutcome → S → Type 0) where
  -- so many read calls, after each of which reading goes on: the last `idle` of them brought no byte, and never more than `most` in a row
  unfoldable pub GoOnIdle : ℕ → ℕ → ℕ → S → S → Type 0
  GoOnIdle most zero idle old new = (old ≡ new) × (idle ≡ 0)
  GoOnIdle most (suc n) idle old new =
      (between : S) × (outcome : CallOutcome) × (before : ℕ) × GoOnIdle most n before old between × (before < most) × GoesOn outcome × called between outcome new
      × (idle ≡ idle_after outcome before)

  -- after such calls one more is made, and of it this holds
  abbrev pub EndsIdle : ℕ → (CallOutcome → Type 0) → S → S → Type 0
  EndsIdle most Last old new =
      (n idle : ℕ) × (between : S) × (outcome : CallOutcome) × GoOnIdle most n idle old between × (idle < most) × Last outcome × called between outcome new

  -- of the read calls no more than so many in a row brought no byte
  abbrev pub IdlesAtMost : ℕ → S → S → Type 0
  IdlesAtMost most old new = ((n idle : ℕ) × GoOnIdle most n idle old new) ⊎ EndsIdle most (λ outcome. Unit {0}) old new

  -- no end was found: so many read calls in a row brought no byte, or the last one failed
  abbrev pub FindsNoEndIdle : ℕ → S → S → Type 0
  FindsNoEndIdle most old new = ((n : ℕ) × GoOnIdle most n most old new) ⊎ EndsIdle most IsFailure old new
