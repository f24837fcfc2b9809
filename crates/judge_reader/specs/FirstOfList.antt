-- A long history that is the first element of a list.
use Rattle.std.specs.Prelude.{◌≡◌, ⊤, ℕ, List, [], ◌∷◌, Option, Some, None}
use Rattle.serde_json.specs.Data.{Data}
use Rattle.json_bounded.specs.Text.{IsJson}
use Rattle.order_memory.specs.Memory.{MemoryHistory}
use Rattle.json_histories.specs.AnyForm.{form_of}
use Rattle.json_histories.specs.Json.{elements}
use Rattle.json_histories.specs.declared.any_history.AnyHistory.TheVariants as histories
use Rattle.json_histories.specs.declared.read_error.ReadError.{ReadError}
use Rattle.json_histories.specs.declared.read_error.ReadError.TheVariants.{NotJson, BadShape, Memory}
use Rattle.judge_reader.specs.LongRefusals.{first_long_refusal}

-- the text is a list, which begins with the form of the history
abbrev pub BeginsWith : List ℕ → MemoryHistory → Type 0
BeginsWith text h = (d : Data) × (ds : List Data) × IsJson text d × (elements d ≡ Some (form_of (histories.Memory h) ∷ ds))

-- the first refusal: it is no list, or an empty one, or its first element has this refusal
abbrev pub refusal_of_first : Option (List Data) → Option ReadError
refusal_of_first None = Some BadShape
refusal_of_first (Some []) = Some BadShape
refusal_of_first (Some (d ∷ ds)) = first_long_refusal d

-- why a text is refused: it is no JSON, or its value has this first refusal
abbrev pub IsRefusedFirst : List ℕ → ReadError → Type 0
IsRefusedFirst text NotJson = (d : Data) → ¬ IsJson text d
IsRefusedFirst text Memory = ⊤
IsRefusedFirst text error = (d : Data) × IsJson text d × (refusal_of_first (elements d) ≡ Some error)
