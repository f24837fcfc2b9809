-- The parts of a value that is a list of a text, a whole number and a list, and perhaps one more list.
use Rattle.std.specs.Prelude.{ℕ, List, [], ◌∷◌, Option, None, option_and_then, option_map, is_some, if◌then◌else◌}
use Rattle.serde_json.specs.Data.{Data}
use Rattle.serde_json.specs.Find.{as_str}
use Rattle.json_histories.specs.Json.{elements, whole_number}
use Rattle.live_script.specs.ScriptForm.{Parts}

abbrev pub named_parts : Data → Data → Data → List Data → Option Parts
named_parts n k ss rest =
    option_and_then (λ (name : List ℕ).
    option_and_then (λ (sessions : ℕ).
    option_map (λ (steps : List Data). record { name = name; sessions = sessions; steps = steps; rest = rest }) (elements ss))
    (whole_number k)) (as_str n)

abbrev pub parts_among : List Data → Option Parts
parts_among [] = None
parts_among (n ∷ []) = None
parts_among (n ∷ k ∷ []) = None
parts_among (n ∷ k ∷ ss ∷ []) = named_parts n k ss []
parts_among (n ∷ k ∷ ss ∷ t ∷ []) = if is_some (elements t) then named_parts n k ss (t ∷ []) else None
parts_among (n ∷ k ∷ ss ∷ t ∷ d ∷ ds) = None

abbrev pub parts_at : Data → Option Parts
parts_at d = option_and_then parts_among (elements d)
