-- How a queue is spelled: `"push"` and the item, and `"pop"` and the item that was popped, or null where there was none.
use Rattle.std.specs.Prelude.{ℕ, nat_eq, List, [], ◌∷◌, codes, Option, Some, None, is_some, option_map, if◌then◌else◌}
use Rattle.std.specs.Cmp.Lexicographic.{pointwise}
use Rattle.serde_json.specs.Data.{Data, null, number, unsigned}
use Rattle.serde_json.specs.Find.{as_null}
use Rattle.model_objects.specs.declared.queue.QueueCall.{QueueCall}
use Rattle.model_objects.specs.declared.queue.QueueCall.TheVariants.{Push, Pop}
use Rattle.model_objects.specs.declared.queue.QueueRet.{QueueRet}
use Rattle.model_objects.specs.declared.queue.QueueRet.TheVariants.{Done, Popped}
use Rattle.json_histories.specs.Json.{whole_number}
use Rattle.json_histories.specs.Spelling.{call_with}

abbrev pub word_of : QueueCall → List ℕ
word_of (Push v) = codes "push"
word_of Pop = codes "pop"

-- a push takes its item, and a pop nothing
abbrev pub arguments : QueueCall → List Data
arguments (Push v) = number (unsigned v) ∷ []
arguments Pop = []

-- a push that is done says nothing more
abbrev pub ret_form : QueueRet → List Data
ret_form Done = []
ret_form (Popped None) = null ∷ []
ret_form (Popped (Some v)) = number (unsigned v) ∷ []

abbrev pub call_at : List ℕ → List Data → Option (QueueCall × List Data)
call_at word ds =
    if pointwise nat_eq word (codes "push") then call_with Push ds
    else (if pointwise nat_eq word (codes "pop") then Some (Pop, ds) else None)

-- what was popped: null for nothing
abbrev pub popped_at : Data → Option QueueRet
popped_at d = if is_some (as_null d) then Some (Popped None) else option_map (λ (v : ℕ). Popped (Some v)) (whole_number d)

abbrev pub ret_at : QueueCall → List Data → Option QueueRet
ret_at (Push v) [] = Some Done
ret_at (Push v) (d ∷ ds) = None
ret_at Pop [] = None
ret_at Pop (d ∷ []) = popped_at d
ret_at Pop (d ∷ e ∷ ds) = None
