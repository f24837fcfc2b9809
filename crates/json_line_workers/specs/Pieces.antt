-- What is read of an input and handed out.
use Rattle.std.specs.Prelude.{⊤, ◌≡◌, ◌<◌, ◌≤◌, ◌+◌, ℕ, Bool, true, false, List, [], ◌∷◌, ◌++◌, Option, Some, IfSome, length, take, drop}
use Rattle.std.specs.Io.KnownBytes.{Consumes, IsAtEnd}
use Rattle.json_lines.specs.Lines.{lines_of}
use Rattle.json_lines.specs.Steps.{IsFree}
use Rattle.json_line_workers.specs.declared.place.Place.{Place}
use Rattle.json_line_workers.specs.declared.held.Held.{Held}
use Rattle.json_line_workers.specs.declared.held.Stop.{Stop}
use Rattle.json_line_workers.specs.declared.held.Stop.TheVariants.{Lines, TooLong, End}
use Rattle.json_line_workers.specs.declared.reading.Next.{Next}
use Rattle.json_line_workers.specs.Places.{IsEnd, IsPiece}

-- so many bytes are whole lines, and no line feed stands behind them
pub record IsCut (whole : ℕ) (bytes : List ℕ) : Type 0 where
  pub within : whole ≤ length bytes
  pub apart : (more : List ℕ) → lines_of (bytes ++ more) ≡ lines_of (take whole bytes) ++ lines_of (drop whole bytes ++ more)
  pub free : IsFree (drop whole bytes)

-- nothing is held inside a line that is answered already
abbrev pub NothingIf : Bool → List ℕ → Type 0
NothingIf true bytes = bytes ≡ []
NothingIf false bytes = ⊤

-- what is held and what the reader has are the input from the place on
pub record IsReading (input : Option (List ℕ)) (held : Held) (reader : Option (List ℕ)) : Type 0 where
  pub cut : IsCut held.whole held.bytes.items
  pub rest : IfSome input (λ all. (behind : List ℕ) × (reader ≡ Some behind) × (drop held.at.at all ≡ held.bytes.items ++ behind))
  pub inside : NothingIf held.at.inside held.bytes.items

-- why reading stopped
abbrev pub Stops : ℕ → Stop → Option (List ℕ) → Held → Type 0
Stops most Lines reader held = ⊤
Stops most TooLong reader held = (held.whole ≡ 0) × (most < length held.bytes.items)
Stops most End reader held = IsAtEnd reader

-- so many bytes were handed out, and no line ends in those that are left
pub record HandsOut (count : ℕ) (last : Bool) (old new : Held) (next : Next) : Type 0 where
  pub bytes : next.bytes.items ≡ take count old.bytes.items
  pub left : new.bytes.items ≡ drop count old.bytes.items
  pub at : new.at.at ≡ old.at.at + count
  pub inside : new.at.inside ≡ false
  pub cut : IsCut new.whole new.bytes.items
  pub long : next.long ≡ false
  pub last_is : next.last ≡ last

-- a line that goes on after so many bytes was handed out as too long, and all of it that was held was let go
pub record HandsOutLong (old new : Held) (next : Next) : Type 0 where
  pub left : new.bytes.items ≡ []
  pub at : new.at.at ≡ old.at.at + length old.bytes.items
  pub inside : new.at.inside ≡ true
  pub cut : IsCut new.whole new.bytes.items
  pub long : next.long ≡ true
  pub last_is : next.last ≡ false

-- so many bytes without a line feed were read
abbrev pub Passed : Option (List ℕ) → Option (List ℕ) → ℕ → Type 0
Passed before after count = (rest : List ℕ) × IsFree rest × Consumes before after rest × (count ≡ length rest)

-- the rest of a line was read to its line feed, in so many bytes, and what is held now after it; or its rest to the end
abbrev pub Passes : Option (List ℕ) → Option (List ℕ) → ℕ → List ℕ → Bool → Type 0
Passes before after count held false = (rest : List ℕ) × IsFree rest × Consumes before after (rest ++ 10 ∷ held) × (count ≡ length rest + 1)
Passes before after count held true = Passed before after count × IsAtEnd after × (held ≡ [])

-- what is known when lines were handed out: more can be read, or nothing comes after them
abbrev pub IsAfter : Option (List ℕ) → Held → Option (List ℕ) → Bool → Type 0
IsAfter input held reader false = IsReading input held reader
IsAfter input held reader true = IsEnd input held.at × IsAtEnd reader

-- what was handed out of the input from a place on, and what is known then
pub record IsNext (input : Option (List ℕ)) (most : ℕ) (from : Place) (held : Held) (reader : Option (List ℕ)) (next : Next) : Type 0 where
  pub piece : IsPiece input most from held.at next.long next.bytes.items
  pub after : IsAfter input held reader next.last
