-- How a register is spelled: `"w"` and the value for a write, `"r"` and the value that was read for a read.
use Rattle.std.specs.Prelude.{ℕ, ◌==◌, nat_eq, List, [], ◌∷◌, codes, Option, Some, None, option_map, option_and_then, if◌then◌else◌}
use Rattle.std.specs.Cmp.Lexicographic.{pointwise}
use Rattle.serde_json.specs.Data.{Data, number, unsigned}
use Rattle.model_objects.specs.declared.register.RegisterCall.{RegisterCall}
use Rattle.model_objects.specs.declared.register.RegisterCall.TheVariants.{Write, Read}
use Rattle.model_objects.specs.declared.register.RegisterRet.{RegisterRet}
use Rattle.model_objects.specs.declared.register.RegisterRet.TheVariants.{Done, Value}
use Rattle.json_histories.specs.Json.{whole_number}
use Rattle.json_histories.specs.Spelling.{call_with}

abbrev pub word_of : RegisterCall → List ℕ
word_of (Write v) = codes "w"
word_of Read = codes "r"

-- a write takes its value, and a read nothing
abbrev pub arguments : RegisterCall → List Data
arguments (Write v) = number (unsigned v) ∷ []
arguments Read = []

-- a write that is done says nothing more
abbrev pub ret_form : RegisterRet → List Data
ret_form Done = []
ret_form (Value v) = number (unsigned v) ∷ []

abbrev pub call_at : List ℕ → List Data → Option (RegisterCall × List Data)
call_at word ds =
    if pointwise nat_eq word (codes "w") then call_with Write ds
    else (if pointwise nat_eq word (codes "r") then Some (Read, ds) else None)

abbrev pub ret_at : RegisterCall → List Data → Option RegisterRet
ret_at (Write v) [] = Some Done
ret_at (Write v) (d ∷ ds) = None
ret_at Read [] = None
ret_at Read (d ∷ []) = option_map (λ (v : ℕ). Value v) (whole_number d)
ret_at Read (d ∷ e ∷ ds) = None

abbrev pub start_form : ℕ → Data
start_form value = number (unsigned value)

-- 0 is the plain start, and has no form
abbrev pub start_at : Data → Option ℕ
start_at d = option_and_then (λ (value : ℕ). if value == 0 then None else Some value) (whole_number d)
