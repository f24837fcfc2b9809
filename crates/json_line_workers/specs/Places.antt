-- Where in an input lines are.
use Rattle.std.specs.Prelude.{◌≡◌, ◌≢◌, ◌==◌, ◌<◌, ℕ, Bool, true, false, List, [], ◌∷◌, ◌++◌, if◌then◌else◌, Option, None, Some, IfSome, length, drop}
use Rattle.std.specs.List.{All}
use Rattle.std.specs.Io.KnownBytes.{Appends}
use Rattle.json_lines.specs.Lines.{AreAnswered, FirstAreAnswered, FirstAreBegun, IsPartOn, Says, lines_of}
use Rattle.json_lines.specs.Steps.{IsFree}
use Rattle.json_lines.specs.declared.outcome.Outcome.{Outcome}
use Rattle.json_lines.specs.declared.fault.Fault.{Fault}
use Rattle.json_lines.specs.declared.fault.Fault.TheVariants.{Read, Write}
use Rattle.json_lines.specs.declared.part.Part.{Part}
use Rattle.json_line_workers.specs.declared.place.Place.{Place}

-- what comes after the first line feed
unfoldable pub after_feed : List ℕ → List ℕ
after_feed [] = []
after_feed (b ∷ bs) = if b == 10 then bs else after_feed bs

-- where the lines begin that come next: here, or after the line that goes on here
abbrev pub next_lines : Bool → List ℕ → List ℕ
next_lines true bytes = after_feed bytes
next_lines false bytes = bytes

-- what an input has from a place on
abbrev pub rest_from : Place → List ℕ → List ℕ
rest_from place all = next_lines place.inside (drop place.at all)

abbrev pub start : Place
start = record { at = 0; inside = false }

-- these lines are from one place of the input up to another, where the input is known
abbrev pub Spans : Option (List ℕ) → Place → Place → List (List ℕ) → Type 0
Spans input from until lines = IfSome input (λ all. lines_of (rest_from from all) ≡ lines ++ lines_of (rest_from until all))

-- no line is from there on
abbrev pub IsEnd : Option (List ℕ) → Place → Type 0
IsEnd input place = IfSome input (λ all. lines_of (rest_from place all) ≡ [])

-- no line has a line feed
abbrev pub AreLines : List (List ℕ) → Type 0
AreLines lines = All IsFree lines

-- the answers to the lines up to that place follow what the writer held, and this comes of them
pub record IsFiled (says : Says) (input before now : Option (List ℕ)) (until : Place) (outcome : Outcome) : Type 0 where
  pub lines : List (List ℕ)
  pub text : List ℕ
  pub free : AreLines lines
  pub spans : Spans input start until lines
  pub answered : AreAnswered says lines text outcome
  pub written : Appends before now text

-- what is made of the lines between two places
pub record IsDone (says : Says) (input : Option (List ℕ)) (from until : Place) (part : Part) : Type 0 where
  pub lines : List (List ℕ)
  pub free : AreLines lines
  pub spans : Spans input from until lines
  pub made : IsPartOn says lines part

-- a line of more bytes than that is between two places
pub record IsLong (input : Option (List ℕ)) (most : ℕ) (from until : Place) : Type 0 where
  pub line : List ℕ
  pub long : most < length line
  pub free : IsFree line
  pub spans : Spans input from until (line ∷ [])

-- the lines of these bytes are between two places, or one line that is too long
abbrev pub IsPiece : Option (List ℕ) → ℕ → Place → Place → Bool → List ℕ → Type 0
IsPiece input most from until true bytes = IsLong input most from until
IsPiece input most from until false bytes = Spans input from until (lines_of bytes)

-- what is made of the lines of some bytes, or of any line that is too long
abbrev pub IsPartOf : Says → ℕ → Bool → List ℕ → Part → Type 0
IsPartOf says most true bytes part = (line : List ℕ) → most < length line → IsPartOn says (line ∷ []) part
IsPartOf says most false bytes part = IsPartOn says (lines_of bytes) part

-- what is said of a line is said of it for another too, who takes as many bytes for too many
abbrev pub Serves : Says → ℕ → Says → ℕ → Type 0
Serves says most more_says more_most = ((line text : List ℕ) (outcome : Outcome) → says line text outcome → more_says line text outcome) × (more_most ≡ most)

-- up to where answers are written where there was no fault, and what can be said where there was one
pub record IsOutlet (says : Says) (input before now : Option (List ℕ)) (until : Place) (outcome : Outcome) (fault : Option Fault) : Type 0 where
  pub filed : fault ≡ None → IsFiled says input before now until outcome
  pub first : fault ≢ Some Write → FirstAreAnswered says input before now
  pub begun : FirstAreBegun says input before now
  pub unread : fault ≢ Some Read
