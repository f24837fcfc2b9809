-- How a set is spelled: `"add"`, `"rem"` or `"has"` and the element, and behind a has whether the element was there.
use Rattle.std.specs.Prelude.{ℕ, nat_eq, List, [], ◌∷◌, codes, Bool, Option, Some, None, option_map, if◌then◌else◌}
use Rattle.std.specs.Cmp.Lexicographic.{pointwise}
use Rattle.serde_json.specs.Data.{Data, boolean, number, unsigned}
use Rattle.serde_json.specs.Find.{as_bool}
use Rattle.model_objects.specs.declared.add_remove_set.SetCall.{SetCall}
use Rattle.model_objects.specs.declared.add_remove_set.SetCall.TheVariants.{Add, Remove, Has}
use Rattle.model_objects.specs.declared.add_remove_set.SetRet.{SetRet}
use Rattle.model_objects.specs.declared.add_remove_set.SetRet.TheVariants.{Done, Has as HasAnswer}
use Rattle.json_histories.specs.Spelling.{call_with}

abbrev pub word_of : SetCall → List ℕ
word_of (Add e) = codes "add"
word_of (Remove e) = codes "rem"
word_of (Has e) = codes "has"

-- each call takes its element
abbrev pub arguments : SetCall → List Data
arguments (Add e) = number (unsigned e) ∷ []
arguments (Remove e) = number (unsigned e) ∷ []
arguments (Has e) = number (unsigned e) ∷ []

-- an add or a remove that is done says nothing more
abbrev pub ret_form : SetRet → List Data
ret_form Done = []
ret_form (HasAnswer b) = boolean b ∷ []

abbrev pub call_at : List ℕ → List Data → Option (SetCall × List Data)
call_at word ds =
    if pointwise nat_eq word (codes "add") then call_with Add ds
    else (if pointwise nat_eq word (codes "rem") then call_with Remove ds
    else (if pointwise nat_eq word (codes "has") then call_with Has ds else None))

abbrev pub ret_at : SetCall → List Data → Option SetRet
ret_at (Add e) [] = Some Done
ret_at (Add e) (d ∷ ds) = None
ret_at (Remove e) [] = Some Done
ret_at (Remove e) (d ∷ ds) = None
ret_at (Has e) [] = None
ret_at (Has e) (d ∷ []) = option_map (λ (b : Bool). HasAnswer b) (as_bool d)
ret_at (Has e) (d ∷ f ∷ ds) = None
