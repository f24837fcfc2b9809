-- Which refusal comes first where a JSON value is read as a long history of a memory: its shape, its name, then each session in order (a list,
-- and each operation in order), and its start at last.
use Rattle.std.specs.Prelude.{◌≡◌, ⊤, ℕ, nat_eq, List, [], ◌∷◌, length, Option, Some, None, option_and_then, slice_get, if◌then◌else◌}
use Rattle.std.specs.Cmp.Lexicographic.{pointwise}
use Rattle.std.specs.Option.{option_or}
use Rattle.serde_json.specs.Data.{Data}
use Rattle.json_bounded.specs.Text.{IsJson}
use Rattle.order_memory.specs.Memory.{MemoryCall}
use Rattle.model_objects.specs.declared.register.RegisterRet.{RegisterRet}
use Rattle.json_histories.specs.Json.{elements}
use Rattle.json_histories.specs.ObjectNames.{text_of}
use Rattle.json_histories.specs.Reading.{first_among, operation_refusal, parts_of, start_refusal}
use Rattle.json_histories.specs.RegisterForm as register
use Rattle.json_histories.specs.Spelling.{entries_at, keyed_at}
use Rattle.json_histories.specs.declared.object_name.ObjectName.TheVariants.{Memory as MemoryName}
use Rattle.json_histories.specs.declared.read_error.ReadError.{ReadError}
use Rattle.json_histories.specs.declared.read_error.ReadError.TheVariants.{NotJson, BadShape, UnknownObject, Memory}

-- an operation of a memory, and its return where that is known
abbrev pub operation_at : Data → Option (MemoryCall × Option RegisterRet)
operation_at = keyed_at register.call_at register.ret_at

-- the first refusal of a session, which is a list of any length
abbrev pub operations_refusal : ℕ → Option (List Data) → Option ReadError
operations_refusal s None = Some BadShape
operations_refusal s (Some ds) = first_among (length ds) (operation_refusal operation_at s ds)

abbrev pub session_refusal : List Data → ℕ → Option ReadError
session_refusal sessions s = operations_refusal s (option_and_then elements (slice_get sessions s))

-- and of the sessions, of which there may be any number
abbrev pub sessions_refusal : List Data → Option ReadError
sessions_refusal sessions = first_among (length sessions) (session_refusal sessions)

-- a table of one initial value or more
abbrev pub table_of : List Data → Option (List (ℕ × ℕ))
table_of [] = None
table_of (d ∷ ds) = entries_at register.start_at None (d ∷ ds)

-- the start: nothing, or such a table
abbrev pub start_of : List Data → Option (List (ℕ × ℕ))
start_of [] = Some []
start_of (d ∷ []) = option_and_then table_of (elements d)
start_of (d ∷ e ∷ ds) = None

-- a name that is not `memory`
abbrev pub name_refusal : List ℕ → Option ReadError
name_refusal name = if pointwise nat_eq name (text_of MemoryName) then None else Some UnknownObject

abbrev pub parts_refusal : Option (List ℕ × List Data × List Data) → Option ReadError
parts_refusal None = Some BadShape
parts_refusal (Some p) = option_or (name_refusal p.0) (option_or (sessions_refusal p.1) (start_refusal (start_of p.2)))

-- the first refusal of a JSON value, or none
abbrev pub first_long_refusal : Data → Option ReadError
first_long_refusal d = parts_refusal (parts_of d)

-- why a text is refused: it is no JSON, or its value has this first refusal
abbrev pub IsRefusedLong : List ℕ → ReadError → Type 0
IsRefusedLong text NotJson = (d : Data) → ¬ IsJson text d
IsRefusedLong text Memory = ⊤
IsRefusedLong text error = (d : Data) × IsJson text d × (first_long_refusal d ≡ Some error)
