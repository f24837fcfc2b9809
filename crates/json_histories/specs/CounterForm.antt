-- How a counter is spelled: `"inc"` for an increment, and `"get"` and the value for a get.
use Rattle.std.specs.Prelude.{ℕ, nat_eq, List, [], ◌∷◌, codes, Option, Some, None, option_map, if◌then◌else◌}
use Rattle.std.specs.Cmp.Lexicographic.{pointwise}
use Rattle.serde_json.specs.Data.{Data, number, unsigned}
use Rattle.model_objects.specs.declared.counter.CounterCall.{CounterCall}
use Rattle.model_objects.specs.declared.counter.CounterCall.TheVariants.{Increment, Get}
use Rattle.model_objects.specs.declared.counter.CounterRet.{CounterRet}
use Rattle.model_objects.specs.declared.counter.CounterRet.TheVariants.{Done, Value}
use Rattle.json_histories.specs.Json.{whole_number}

abbrev pub word_of : CounterCall → List ℕ
word_of Increment = codes "inc"
word_of Get = codes "get"

-- neither call takes anything
abbrev pub arguments : CounterCall → List Data
arguments call = []

-- an increment that is done says nothing more
abbrev pub ret_form : CounterRet → List Data
ret_form Done = []
ret_form (Value n) = number (unsigned n) ∷ []

abbrev pub call_at : List ℕ → List Data → Option (CounterCall × List Data)
call_at word ds =
    if pointwise nat_eq word (codes "inc") then Some (Increment, ds)
    else (if pointwise nat_eq word (codes "get") then Some (Get, ds) else None)

abbrev pub ret_at : CounterCall → List Data → Option CounterRet
ret_at Increment [] = Some Done
ret_at Increment (d ∷ ds) = None
ret_at Get [] = None
ret_at Get (d ∷ []) = option_map (λ (n : ℕ). Value n) (whole_number d)
ret_at Get (d ∷ e ∷ ds) = None
