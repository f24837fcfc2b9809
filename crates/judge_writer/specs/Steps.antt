-- What the functions say to one another: no statement of what is written names these.
use Rattle.std.specs.Prelude.{◌≡◌, ℕ, List, [], ◌∷◌, ◌++◌, All, Option, Some, None}
use Rattle.std.specs.List.{flat_map}
use Rattle.json.specs.Token.{Token}
use Rattle.json.specs.Tree.{json_tokens}
use Rattle.json.specs.Written.{Written}
use Rattle.serde_json.specs.Data.{Data, string}
use Rattle.serde_json.specs.Read.{of_json}
use Rattle.serde_json.specs.Written.{outline}
use Rattle.order_memory.specs.Memory.{MemoryCall}
use Rattle.model_objects.specs.declared.register.RegisterRet.{RegisterRet}
use Rattle.json_histories.specs.Form.{session_form}
use Rattle.json_histories.specs.Json.{unknown}
use Rattle.json_histories.specs.Reads.{number_form}
use Rattle.json_histories.specs.RegisterForm as register
use Rattle.json_histories.specs.Spelling.{entry_form, keyed_form}

-- the tokens of a value
abbrev pub value_tokens : Data → List Token
value_tokens d = json_tokens (outline d)

-- a value is read from what is written for it
abbrev pub IsReadBack : Data → Type 0
IsReadBack d = of_json (outline d) ≡ Some d

-- these values were written, one after the other, after what was there
pub record AreWritten (ds : List Data) (old new : Written) : Type 0 where
  pub before : new.before ≡ old.before
  pub tokens : new.tokens ≡ old.tokens ++ flat_map value_tokens ds
  pub read : All IsReadBack ds

-- one value was written
abbrev pub IsWritten : Data → Written → Written → Type 0
IsWritten d = AreWritten (d ∷ [])

-- an operation of a memory, a session and an initial value
abbrev pub Entry : Type 0
Entry = MemoryCall × Option RegisterRet

abbrev pub operation_form : MemoryCall → Option RegisterRet → Data
operation_form = keyed_form register.word_of register.arguments register.ret_form

abbrev pub operations_form : List Entry → Data
operations_form = session_form operation_form

abbrev pub initial_form : ℕ × ℕ → Data
initial_form = entry_form register.start_form

-- the elements of an operation: those of its call, and those of its return
abbrev pub call_elements : MemoryCall → List Data
call_elements c = string (register.word_of c.call) ∷ number_form c.key ∷ register.arguments c.call

abbrev pub return_elements : Option RegisterRet → List Data
return_elements None = unknown ∷ []
return_elements (Some r) = register.ret_form r
