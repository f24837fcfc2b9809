-- The lines of a text, and what it is to answer them.
use Rattle.std.specs.Prelude.{◌≡◌, ◌==◌, ◌||◌, Bool, ℕ, List, [], ◌∷◌, ◌++◌, if◌then◌else◌, Option, Result, Ok, Err, IfSome}
use Rattle.std.specs.Io.KnownBytes.{Appends}
use Rattle.std.specs.List.{list_all}
use Rattle.json_lines.specs.declared.fault.Fault.{Fault}
use Rattle.json_lines.specs.declared.fault.Fault.TheVariants.{Memory}
use Rattle.json_lines.specs.declared.outcome.Outcome.{Outcome}
use Rattle.json_lines.specs.declared.outcome.Outcome.TheVariants.{Met}
use Rattle.json_lines.specs.declared.part.Part.{Part}
use Rattle.json_lines.specs.Outcomes.{worse}
use Rattle.json_lines.specs.WriteCalls.{AppendsFront}

-- a byte before the first of some lines, or a line of its own where there is none
abbrev pub begun_with : ℕ → List (List ℕ) → List (List ℕ)
begun_with b [] = (b ∷ []) ∷ []
begun_with b (line ∷ lines) = (b ∷ line) ∷ lines

-- the lines of a text, without their line feeds: a line feed ends each, and the last may lack it
unfoldable pub lines_of : List ℕ → List (List ℕ)
lines_of [] = []
lines_of (b ∷ bs) = if b == 10 then ([] ∷ lines_of bs) else begun_with b (lines_of bs)

-- spaces, tabs and carriage returns alone
abbrev pub is_blank : List ℕ → Bool
is_blank line = list_all (λ b. b == 32 || b == 9 || b == 13) line

-- a text and the line feed that ends it
abbrev pub ended : List ℕ → List ℕ
ended text = text ++ (10 ∷ [])

-- what it is for a text, without its line feed, to answer a line, and for this to come of it
abbrev pub Says : Type 1
Says = List ℕ → List ℕ → Outcome → Type 0

-- the text has an answer to each of the lines and a line feed behind it, in their order and nothing else, and this comes of all
unfoldable pub AreAnswered : Says → List (List ℕ) → List ℕ → Outcome → Type 0
AreAnswered says [] text outcome = (text ≡ []) × (outcome ≡ Met)
AreAnswered says (line ∷ lines) text outcome =
    (first : List ℕ) × (others : List ℕ) × (one : Outcome) × (more : Outcome) × says line first one × AreAnswered says lines others more
    × (text ≡ ended first ++ others) × (outcome ≡ worse one more)

-- all lines that a reader had are answered behind what a writer held, and this comes of all: where these tell their bytes
pub record AllAreAnswered (says : Says) (reader before after : Option (List ℕ)) (outcome : Outcome) : Type 0 where
  pub input : List ℕ
  pub text : List ℕ
  pub whole : IfSome reader (λ bytes. input ≡ bytes)
  pub answered : AreAnswered says (lines_of input) text outcome
  pub written : Appends before after text

-- some first lines of what a reader had are answered behind what a writer held, and no more stands there
pub record FirstAreAnswered (says : Says) (reader before after : Option (List ℕ)) : Type 0 where
  pub lines : List (List ℕ)
  pub text : List ℕ
  pub outcome : Outcome
  pub first : IfSome reader (λ bytes. (others : List (List ℕ)) × (lines_of bytes ≡ lines ++ others))
  pub answered : AreAnswered says lines text outcome
  pub written : Appends before after text

-- a beginning of the answers to some first lines of what a reader had stands behind what a writer held
pub record FirstAreBegun (says : Says) (reader before after : Option (List ℕ)) : Type 0 where
  pub lines : List (List ℕ)
  pub text : List ℕ
  pub outcome : Outcome
  pub first : IfSome reader (λ bytes. (others : List (List ℕ)) × (lines_of bytes ≡ lines ++ others))
  pub answered : AreAnswered says lines text outcome
  pub begun : AppendsFront before after text

-- the text answers the lines before these
pub record Front (says : Says) (all rest : List (List ℕ)) (text : List ℕ) (outcome : Outcome) : Type 0 where
  pub lines : List (List ℕ)
  pub split : all ≡ lines ++ rest
  pub answered : AreAnswered says lines text outcome

-- the text answers some first lines of those
abbrev pub FirstOf : Says → List (List ℕ) → List ℕ → Type 0
FirstOf says all text = (rest : List (List ℕ)) × (outcome : Outcome) × Front says all rest text outcome

-- the text answers some lines, or the first of them where memory ran out
abbrev pub AnswersAs : Says → List (List ℕ) → Result Outcome Fault → List ℕ → Type 0
AnswersAs says lines (Ok outcome) text = AreAnswered says lines text outcome
AnswersAs says lines (Err fault) text = (fault ≡ Memory) × FirstOf says lines text

-- what is made of some lines
abbrev pub IsPartOn : Says → List (List ℕ) → Part → Type 0
IsPartOn says lines part = AnswersAs says lines part.outcome part.text.items
