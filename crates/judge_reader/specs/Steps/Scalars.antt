-- What the elements of an operation say: its words, whole numbers and `"?"`.
use Rattle.std.specs.Prelude.{◌≡◌, ℕ, ◌^◌, nat_eq, nat_lt, List, ◌∷◌, codes, Option, Some, None, MatchOption, option_and_then, option_map, if◌then◌else◌}
use Rattle.std.specs.Cmp.Lexicographic.{pointwise}
use Rattle.json.specs.Json.{after_end_array, value}
use Rattle.json.specs.Token.{Token}
use Rattle.serde_json.specs.Data.{Data}
use Rattle.serde_json.specs.Find.{as_str}
use Rattle.serde_json.specs.Read.{of_json, converted}
use Rattle.model_objects.specs.declared.register.RegisterCall.{RegisterCall}
use Rattle.model_objects.specs.declared.register.RegisterCall.TheVariants.{Write, Read}
use Rattle.model_objects.specs.declared.register.RegisterRet.{RegisterRet}
use Rattle.model_objects.specs.declared.register.RegisterRet.TheVariants.{Done, Value}
use Rattle.json_histories.specs.Json.{whole_number}
use Rattle.json_histories.specs.RegisterForm as register
use Rattle.json_histories.specs.Spelling.{keyed_parts_at, word_key_rest}
use Rattle.judge_reader.specs.Steps.Reading.{Entry}
use Rattle.json_tokens.specs.Tokens.{IsValue}
use Rattle.judge_reader.specs.declared.scalar.Scalar.{Scalar}
use Rattle.judge_reader.specs.declared.scalar.Scalar.TheVariants as scalars

abbrev pub text_scalar : List ℕ → Scalar
text_scalar s =
    if pointwise nat_eq s (codes "w") then scalars.Write
    else (if pointwise nat_eq s (codes "r") then scalars.Read else (if pointwise nat_eq s (codes "?") then scalars.Unknown else scalars.Other))

abbrev pub number_scalar : Option ℕ → Scalar
number_scalar None = scalars.Other
number_scalar (Some n) = scalars.Number n

abbrev pub said_by : Option (List ℕ) → Option ℕ → Scalar
said_by (Some s) n = text_scalar s
said_by None n = number_scalar n

-- what a value says as an element of an operation
abbrev pub scalar_of : Data → Scalar
scalar_of d = said_by (as_str d) (whole_number d)

-- the token is a value that says this
abbrev pub IsAlone : Token → Scalar → Type 0
IsAlone t s = (d : Data) × ((depth : ℕ) (ts : List Token) → converted of_json (value depth (t ∷ ts)) ≡ Some (d, ts)) × (scalar_of d ≡ s)

-- the list is over, or one value is passed that says this
abbrev pub IsNextScalar : ℕ → List Token → List Token → Option Scalar → Type 0
IsNextScalar depth old new s = MatchOption s (after_end_array old ≡ Some new) (λ s. (after_end_array old ≡ None) × IsValue (λ d. scalar_of d ≡ s) depth old new)

-- the call and the return that a word and one or two more elements spell
abbrev pub spelled_by : Scalar → Scalar → Option Scalar → Option (RegisterCall × Option RegisterRet)
spelled_by scalars.Write (scalars.Number v) None = Some (Write v, Some Done)
spelled_by scalars.Write (scalars.Number v) (Some scalars.Unknown) = Some (Write v, None)
spelled_by scalars.Read (scalars.Number v) None = Some (Read, Some (Value v))
spelled_by scalars.Read scalars.Unknown None = Some (Read, None)
spelled_by _ _ _ = None

abbrev pub key_in : Scalar → Option ℕ
key_in (scalars.Number n) = if nat_lt n (2 ^ 32) then Some n else None
key_in _ = None

-- the call under a key
abbrev pub under : ℕ → RegisterCall × Option RegisterRet → Entry
under key e = (record { key = key; call = e.0 }, e.1)

abbrev pub keyed_by : Option ℕ → Option (RegisterCall × Option RegisterRet) → Option Entry
keyed_by key spelled = option_and_then (λ (k : ℕ). option_map (under k) spelled) key

-- the operation that a word, a key and one or two more elements spell
abbrev pub entry_of : Scalar → Scalar → Scalar → Option Scalar → Option Entry
entry_of word key first second = keyed_by (key_in key) (spelled_by word first second)

-- the operation of which these are the elements, where there are any
abbrev pub operation_in : Option (List Data) → Option Entry
operation_in ds = option_and_then (keyed_parts_at register.call_at register.ret_at) (option_and_then word_key_rest ds)
