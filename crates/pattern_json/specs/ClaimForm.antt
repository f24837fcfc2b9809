-- Why a text is refused as a claim: a JSON list of a history, the name of a criterion and a pattern.
use Rattle.std.specs.Prelude.{◌≡◌, ⊤, ℕ, List, [], ◌∷◌, Option, Some, None}
use Rattle.serde_json.specs.Data.{Data}
use Rattle.json_bounded.specs.Text.{IsJson}
use Rattle.json_histories.specs.AnyForm.{first_refusal}
use Rattle.json_histories.specs.Json.{elements}
use Rattle.json_histories.specs.declared.read_error.ReadError.{ReadError}
use Rattle.json_histories.specs.declared.read_error.ReadError.TheVariants.{NotJson, BadShape, Memory}

-- the first refusal: it is no list of three elements, or its history has this refusal
abbrev pub refusal_of_three : List Data → Option ReadError
refusal_of_three [] = Some BadShape
refusal_of_three (h ∷ []) = Some BadShape
refusal_of_three (h ∷ c ∷ []) = Some BadShape
refusal_of_three (h ∷ c ∷ p ∷ []) = first_refusal h
refusal_of_three (h ∷ c ∷ p ∷ d ∷ ds) = Some BadShape

abbrev pub claim_refusal : Option (List Data) → Option ReadError
claim_refusal None = Some BadShape
claim_refusal (Some ds) = refusal_of_three ds

-- why a text is refused: it is no JSON, or its value has this first refusal
abbrev pub IsClaimRefused : List ℕ → ReadError → Type 0
IsClaimRefused text NotJson = (d : Data) → ¬ IsJson text d
IsClaimRefused text Memory = ⊤
IsClaimRefused text error = (d : Data) × IsJson text d × (claim_refusal (elements d) ≡ Some error)
