-- A history's form and another value in one JSON list.
use Rattle.std.specs.Prelude.{◌≡◌, ⊤, ℕ, List, [], ◌∷◌, Option, Some, None}
use Rattle.serde_json.specs.Data.{Data}
use Rattle.json_histories.specs.declared.read_error.ReadError.{ReadError}
use Rattle.json_histories.specs.declared.read_error.ReadError.TheVariants as errors
use Rattle.json_histories.specs.Json.{elements, list}
use Rattle.json_histories.specs.AnyForm.{first_refusal, IsJson}

-- a history's form and another value in one JSON list
abbrev pub pair_form : Data → Data → Data
pair_form history certificate = list (history ∷ certificate ∷ [])

-- the first refusal of a pair: it is no list of two elements, or its history has this first refusal
abbrev pub first_of_pair : List Data → Option ReadError
first_of_pair [] = Some errors.BadShape
first_of_pair (h ∷ []) = Some errors.BadShape
first_of_pair (h ∷ c ∷ []) = first_refusal h
first_of_pair (h ∷ c ∷ d ∷ ds) = Some errors.BadShape

abbrev pub pair_refusal : Option (List Data) → Option ReadError
pair_refusal None = Some errors.BadShape
pair_refusal (Some ds) = first_of_pair ds

-- why a text is refused: it is no JSON, or its value has this first refusal
abbrev pub IsPairRefused : List ℕ → ReadError → Type 0
IsPairRefused text errors.NotJson = (d : Data) → ¬ IsJson text d
IsPairRefused text errors.Memory = ⊤
IsPairRefused text error = (d : Data) × IsJson text d × (pair_refusal (elements d) ≡ Some error)
