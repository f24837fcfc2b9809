-- What single functions say to one another, in terms of their own data: no promise to a reader rests on it.
use Rattle.std.specs.Prelude.{⊤, ◌≡◌, ◌≢◌, ◌≤◌, ◌<◌, ◌⊎◌, ℕ, List, [], ◌++◌, Option, None, Some, Result, Ok, Err, length, take, slice_index}
use Rattle.std.specs.List.{All}
use Rattle.std.specs.Io.KnownBytes.{Consumes, IsAtEnd}
use Rattle.json_lines.specs.declared.fault.Fault.{Fault}
use Rattle.json_lines.specs.declared.fault.Fault.TheVariants as faults
use Rattle.json_lines.specs.declared.feeding.LineEnd.{LineEnd}
use Rattle.json_lines.specs.declared.feeding.LineEnd.TheVariants.{Feed, TooLong as TooLongLine, Stream}
use Rattle.json_lines.specs.declared.found.Found.{Found}
use Rattle.json_lines.specs.declared.found.Found.TheVariants as found
use Rattle.json_lines.specs.ReadCalls.{CallOutcome, EndsBy, FindsNoEnd, GoOnAtMost, GoesOn, IsEnd, IsFailure}
use Rattle.json_lines.specs.WriteCalls.{HasFailed, HasPassedOn, SinkCall, WritingGoesOn}

-- no byte is a line feed
abbrev pub IsFree : List ℕ → Type 0
IsFree bytes = All (λ b. b ≢ 10) bytes

-- a read call gave some bytes, which stand at the front of a chunk, or found the end
abbrev pub Gives : Option (List ℕ) → Option (List ℕ) → List ℕ → Option ℕ → Type 0
Gives reader_before reader_after chunk None = Consumes reader_before reader_after [] × IsAtEnd reader_after
Gives reader_before reader_after chunk (Some count) = (count ≤ length chunk) × Consumes reader_before reader_after (take count chunk)

-- bytes were taken from a reader and put behind those that were held
pub record Takes (reader_before reader_after : Option (List ℕ)) (held_before held_after : List ℕ) : Type 0 where
  pub taken : List ℕ
  pub consumed : Consumes reader_before reader_after taken
  pub held : held_after ≡ held_before ++ taken

-- the same, and then perhaps bytes that found no room
abbrev pub TakesSome : Option (List ℕ) → Option (List ℕ) → List ℕ → List ℕ → Type 0
TakesSome reader_before reader_after held_before held_after =
    (between : Option (List ℕ)) × (lost : List ℕ) × Takes reader_before between held_before held_after × Consumes between reader_after lost

-- where the first line of some bytes ends: its line feed; nowhere, in more bytes than are read of a line; or nowhere in all of them
abbrev pub EndsIn : ℕ → List ℕ → LineEnd → Type 0
EndsIn most bytes (Feed k) = (k < length bytes) × (slice_index bytes k ≡ 10) × IsFree (take k bytes) × (k ≤ most)
EndsIn most bytes TooLongLine = (n : ℕ) × (most < n) × (n ≤ length bytes) × IsFree (take n bytes)
EndsIn most bytes Stream = IsFree bytes × (length bytes ≤ most)

-- the end of the stream, if that was what was found
abbrev pub IsStreamOver : Option (List ℕ) → LineEnd → Type 0
IsStreamOver reader (Feed k) = ⊤
IsStreamOver reader TooLongLine = ⊤
IsStreamOver reader Stream = IsAtEnd reader

-- it is not the end of the stream
abbrev pub IsBefore : LineEnd → Type 0
IsBefore (Feed k) = ⊤
IsBefore TooLongLine = ⊤
IsBefore Stream = ⊥

-- what is found where a line ends
abbrev pub IsFoundFor : LineEnd → Found → Type 0
IsFoundFor (Feed k) f = f ≡ found.Line
IsFoundFor TooLongLine f = f ≡ found.TooLong
IsFoundFor Stream f = (f ≡ found.Rest) ⊎ (f ≡ found.End)

-- bytes were taken from a reader and put behind those that were held, and there the first line ends
pub record FindsEnd (most : ℕ) (reader_before reader_after : Option (List ℕ)) (held_before held_after : List ℕ) (end : LineEnd) : Type 0 where
  pub takes : Takes reader_before reader_after held_before held_after
  pub ends : EndsIn most held_after end
  pub over : IsStreamOver reader_after end

-- what is made of a read call: it found the end, it gave bytes or was interrupted, or the reader failed
abbrev pub CameTo : CallOutcome → Result (Option ℕ) Fault → Type 0
CameTo outcome (Ok None) = IsEnd outcome
CameTo outcome (Ok (Some count)) = GoesOn outcome
CameTo outcome (Err fault) = IsFailure outcome

-- the read calls by which the end of a line was looked for
module _ {S : Type 0} (called : S → CallOutcome → S → Type 0) where
  abbrev pub LooksBy : ℕ → Result LineEnd Fault → S → S → Type 0
  LooksBy most (Ok (Feed k)) = GoOnAtMost called most
  LooksBy most (Ok TooLongLine) = GoOnAtMost called most
  LooksBy most (Ok Stream) = EndsBy called most IsEnd
  LooksBy most (Err faults.Memory) = GoOnAtMost called most
  LooksBy most (Err faults.Read) = FindsNoEnd called most
  LooksBy most (Err faults.Write) = λ old new. ⊥

-- what is made of a write call: it took bytes or was interrupted, or the sink failed
abbrev pub WroteAs : SinkCall → Result ℕ Fault → Type 0
WroteAs call (Ok count) = WritingGoesOn call
WroteAs call (Err fault) = HasFailed call

-- what is made of a call to pass on what was taken
abbrev pub PassedOnAs : SinkCall → Result Unit Fault → Type 0
PassedOnAs call (Ok _) = HasPassedOn call
PassedOnAs call (Err fault) = HasFailed call
