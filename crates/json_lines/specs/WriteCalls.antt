-- Which calls are made of a sink, by what it tells of each: the states before and after it, what it was given, and what comes of it.
use Rattle.std.specs.Prelude.{◌≡◌, ◌≤◌, ◌<◌, ◌⊎◌, ⊤, ℕ, zero, suc, List, ◌++◌, Option, Result, Ok, Err, length}
use Rattle.std.specs.Io.KnownBytes.{Appends}
use Rattle.std.specs.declared.io.Error.{Error}
use Rattle.json_lines.specs.ReadCalls.{GoesOn, IsFailure}

-- a call of a sink: to take some bytes, which takes a number of them or fails; or to pass on what it took, which is done or fails
pub data SinkCall : Type 0 where
  take_of : List ℕ → Result ℕ Error → SinkCall
  pass_on : Result Unit Error → SinkCall

-- it took bytes, or was interrupted, or passed on what it took, and writing goes on
abbrev pub WritingGoesOn : SinkCall → Type 0
WritingGoesOn (take_of bytes outcome) = GoesOn outcome
WritingGoesOn (pass_on (Ok _)) = ⊤
WritingGoesOn (pass_on (Err e)) = ⊥

-- it took none of some bytes, or failed and was not interrupted; or it failed to pass on what it took
abbrev pub HasFailed : SinkCall → Type 0
HasFailed (take_of bytes outcome) = (0 < length bytes) × ((outcome ≡ Ok 0) ⊎ IsFailure outcome)
HasFailed (pass_on (Ok _)) = ⊥
HasFailed (pass_on (Err e)) = ⊤

-- it passed on what it took
abbrev pub HasPassedOn : SinkCall → Type 0
HasPassedOn (take_of bytes outcome) = ⊥
HasPassedOn (pass_on (Ok _)) = ⊤
HasPassedOn (pass_on (Err e)) = ⊥

module _ {S : Type 0} (called : S → SinkCall → S → Type 0) where
  -- so many calls, after each of which writing goes on
  unfoldable pub WriteOn : ℕ → S → S → Type 0
  WriteOn zero old new = old ≡ new
  WriteOn (suc n) old new = (between : S) × (call : SinkCall) × WriteOn n old between × WritingGoesOn call × called between call new

  -- after such calls one more is made, and of it this holds
  abbrev pub WritesUntil : (SinkCall → Type 0) → S → S → Type 0
  WritesUntil Last old new = (n : ℕ) × (between : S) × (call : SinkCall) × WriteOn n old between × Last call × called between call new

  -- the sink failed, or it did not take all in as many calls as that
  abbrev pub FailsToTake : ℕ → S → S → Type 0
  FailsToTake most old new = WritesUntil HasFailed old new ⊎ ((n : ℕ) × (most ≤ n) × WriteOn n old new)

  -- no call failed, and the last one passed on what was taken
  abbrev pub PassesOn : S → S → Type 0
  PassesOn = WritesUntil HasPassedOn

  -- no call was made, or no call failed and the last one passed on what was taken
  abbrev pub IsPassedOn : S → S → Type 0
  IsPassedOn old new = (old ≡ new) ⊎ PassesOn old new

-- a beginning of the text stands behind what was held, where it is known
abbrev pub AppendsFront : Option (List ℕ) → Option (List ℕ) → List ℕ → Type 0
AppendsFront before after text = (front : List ℕ) × (rest : List ℕ) × (text ≡ front ++ rest) × Appends before after front
