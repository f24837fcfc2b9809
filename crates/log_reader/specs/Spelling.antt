-- What the functions that write names say to one another: no promise to a reader rests on it.
use Rattle.std.specs.Prelude.{◌≡◌, ⊤, ℕ, ◌<◌, ◌^◌, pos, negsuc, List, ◌++◌, Some}
use Rattle.serde_json.specs.Data.{Data, number, unsigned, negative}
use Rattle.json.specs.Lex.{in_string, lex}
use Rattle.json.specs.Text.{content, plain, prepend}
use Rattle.log_reader.specs.Names.{Name, value_name}

-- between the quotes of a JSON text, the bytes represent these
pub record Spells (written spelled : List ℕ) : Type 0 where
  pub read : (rest : List ℕ) → content plain (written ++ rest) ≡ prepend spelled (content plain rest)
  pub passed : (rest : List ℕ) → lex in_string (written ++ rest) ≡ lex in_string rest

-- these bytes were put after a text, and bytes that represent these
abbrev pub Adds : List ℕ → List ℕ → List ℕ → Type 0
Adds written old new = new ≡ old ++ written

abbrev pub AddsSpelled : List ℕ → List ℕ → List ℕ → Type 0
AddsSpelled spelled old new = (written : List ℕ) × (new ≡ old ++ written) × Spells written spelled

-- the number is one that the digits of a name give
abbrev pub FitsName : Data → Type 0
FitsName (number (unsigned n)) = n < 2 ^ 64
FitsName (number (negative (pos n))) = ⊥
FitsName (number (negative (negsuc m))) = m < 2 ^ 63
FitsName d = ⊤

-- a JSON value has the name
pub record IsName (name : Name) : Type 0 where
  pub value : Data
  pub names : value_name value ≡ Some name
  pub fits : FitsName value
