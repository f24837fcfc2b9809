-- How a call stands without its return, and a return without its call.
use Rattle.std.specs.Prelude.{ℕ, List, [], ◌∷◌, codes, Bool, true, false, nat_eq, Option, Some, None, option_and_then, if◌then◌else◌}
use Rattle.std.specs.Option.{option_map_or}
use Rattle.std.specs.Cmp.Lexicographic.{pointwise}
use Rattle.serde_json.specs.Data.{Data, string}
use Rattle.serde_json.specs.Find.{as_str}
use Rattle.model_objects.specs.declared.keyed.KeyedCall.{KeyedCall}
use Rattle.json_histories.specs.Reads.{number_form, worded}

-- the text `"ok"`, which represents a return that says no more than that the call is done
abbrev pub done : Data
done = string (codes "ok")

abbrev pub is_done : Data → Bool
is_done d = option_map_or (λ s. pointwise nat_eq s (codes "ok")) (as_str d) false

-- what a return says behind its call stands alone, and in the place of nothing stands `"ok"`
abbrev pub said_alone : List Data → Data
said_alone [] = done
said_alone (d ∷ ds) = d

-- a return without its call
abbrev pub lone_return_form : {R : Type 0} → (R → List Data) → R → Data
lone_return_form ret_form r = said_alone (ret_form r)

-- a call without its return: its word, its key where the object is keyed, and what it takes
abbrev pub plain_call_form : {C : Type 0} → (C → List ℕ) → (C → List Data) → C → Data
plain_call_form word arguments c = worded (word c) (arguments c)

abbrev pub keyed_call_form : {C : Type 0} → (C → List ℕ) → (C → List Data) → KeyedCall C → Data
keyed_call_form word arguments c = worded (word c.call) (number_form c.key ∷ arguments c.call)

-- the call that a word and values spell, where nothing stands behind what it takes
abbrev pub is_nothing : List Data → Bool
is_nothing [] = true
is_nothing (d ∷ ds) = false

abbrev pub whole_call_at : {C : Type 0} → (List ℕ → List Data → Option (C × List Data)) → List ℕ → List Data → Option C
whole_call_at {C} call_at word ds = option_and_then (λ (p : C × List Data). if is_nothing p.1 then Some p.0 else None) (call_at word ds)
