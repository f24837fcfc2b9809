-- What a reader of lines holds, and which line it finds next.
use Rattle.std.specs.Prelude.{⊤, ◌≡◌, ◌<◌, ◌≤◌, ℕ, List, [], ◌∷◌, ◌++◌, Option, length, take}
use Rattle.std.specs.Io.KnownBytes.{Consumes, IsAtEnd}
use Rattle.json_lines.specs.Steps.{IsFree}
use Rattle.json_lines.specs.declared.found.Found.{Found}
use Rattle.json_lines.specs.declared.found.Found.TheVariants.{Line, Rest, TooLong, End}

-- the most bytes of a line, the line that was found last, without its line feed, and what was read and belongs to no line yet
pub record Lining : Type 0 where
  pub most : ℕ
  pub line : List ℕ
  pub held : List ℕ

-- the bytes begin with a line of more bytes than that
abbrev pub BeginsLong : ℕ → List ℕ → Type 0
BeginsLong most bytes = (n : ℕ) × (most < n) × (n ≤ length bytes) × IsFree (take n bytes)

-- what was found first in the bytes that were held and then read: a line and its line feed, with what is held now after it; bytes that no
-- line feed ends; the beginning of a line that is too long; or nothing
abbrev pub IsFirst : List ℕ → Lining → Found → Type 0
IsFirst bytes new Line = (bytes ≡ new.line ++ 10 ∷ new.held) × IsFree new.line × (length new.line ≤ new.most)
IsFirst bytes new Rest = (bytes ≡ new.line) × IsFree new.line × (length new.line ≤ new.most) × (0 < length new.line) × (new.held ≡ [])
IsFirst bytes new TooLong = (bytes ≡ new.held) × (new.line ≡ []) × BeginsLong new.most bytes
IsFirst bytes new End = (bytes ≡ []) × (new.line ≡ []) × (new.held ≡ [])

-- nothing comes after it
abbrev pub IsOver : Option (List ℕ) → Found → Type 0
IsOver reader Line = ⊤
IsOver reader Rest = IsAtEnd reader
IsOver reader TooLong = ⊤
IsOver reader End = IsAtEnd reader

-- bytes were taken from a reader, and this was found
pub record FindsNext (reader_before reader_after : Option (List ℕ)) (old new : Lining) (found : Found) : Type 0 where
  pub taken : List ℕ
  pub consumed : Consumes reader_before reader_after taken
  pub first : IsFirst (old.held ++ taken) new found
  pub over : IsOver reader_after found
  pub most : new.most ≡ old.most
