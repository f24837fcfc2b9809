-- What is read of the tokens of a text, and of its values.
use Rattle.std.specs.Prelude.{◌≡◌, ℕ, List, [], ◌∷◌, ◌++◌, map, Option, Some, None, Result, Ok, Err, MatchOption, MatchResult, nat_eq, option_map, option_and_then, slice_index_or, if◌then◌else◌}
use Rattle.std.specs.Cmp.Lexicographic.{pointwise}
use Rattle.std.specs.Option.{ok_or}
use Rattle.serde_json.specs.Data.{Data}
use Rattle.serde_json.specs.Find.{as_str}
use Rattle.serde_json.specs.Read.{read}
use Rattle.json_bounded.specs.Text.{IsJson}
use Rattle.judge_memory.specs.LongHistories.{IsLongSession}
use Rattle.order_memory.specs.Memory.{MemoryCall}
use Rattle.model_objects.specs.Register.{matches}
use Rattle.model_objects.specs.declared.register.RegisterRet.{RegisterRet}
use Rattle.json_histories.specs.Form.{ReadAs}
use Rattle.json_histories.specs.Json.{elements}
use Rattle.json_histories.specs.ObjectNames.{text_of}
use Rattle.json_histories.specs.Reading.{parts_among, parts_of}
use Rattle.json_histories.specs.RegisterForm as register
use Rattle.json_histories.specs.Spelling.{entry_at, is_above}
use Rattle.json_histories.specs.declared.object_name.ObjectName.TheVariants.{Memory as MemoryName}
use Rattle.json_histories.specs.declared.read_error.ReadError.{ReadError}
use Rattle.json_histories.specs.declared.read_error.ReadError.TheVariants.{BadShape, UnknownObject, BadInitial}
use Rattle.judge_reader.specs.LongRefusals.{operation_at, operations_refusal, parts_refusal, sessions_refusal, start_of, table_of}

-- ---- operations and sessions

abbrev pub Entry : Type 0
Entry = MemoryCall × Option RegisterRet

abbrev pub IsSessionOfMemory : List Entry → Type 0
IsSessionOfMemory es = IsLongSession (λ c. matches c.call) es

-- these elements are these operations, which are a session, and none is refused
pub record AreOperations (s : ℕ) (ds : Option (List Data)) (es : List Entry) : Type 0 where
  pub none_refused : operations_refusal s ds ≡ None
  pub read : option_map (map operation_at) ds ≡ Some (map (λ e. Some e) es)
  pub is_session : IsSessionOfMemory es

-- these elements have this first refusal, or they are the operations that come after the entries before
abbrev pub IsSessionRead : ℕ → Option (List Data) → List Entry → List Entry → Option ReadError → Type 0
IsSessionRead s ds before after refusal =
    MatchOption refusal ((es : List Entry) × (after ≡ before ++ es) × AreOperations s ds es) (λ error. operations_refusal s ds ≡ Some error)

-- these forms are read as these sessions, and none is refused
pub record AreSessionsOf (ds : List Data) (ss : List (List Entry)) : Type 0 where
  pub none_refused : sessions_refusal ds ≡ None
  pub read : ReadAs operation_at ds ss
  pub each : (s : ℕ) → IsSessionOfMemory (slice_index_or ss s [])

abbrev pub AreSessions : List Data → Result (List (List Entry)) ReadError → Type 0
AreSessions ds result = MatchResult result (AreSessionsOf ds) (λ error. sessions_refusal ds ≡ Some error)

-- the same of a value, which may be no list
abbrev pub IsSessionList : Option (List Data) → Option (Result (List (List Entry)) ReadError) → Type 0
IsSessionList ds result = MatchOption result (ds ≡ None) (λ r. (es : List Data) × (ds ≡ Some es) × AreSessions es r)

-- ---- the start, the name and all parts

-- an entry whose key is above the one before it
abbrev pub entry_above : Option ℕ → Data → Option (ℕ × ℕ)
entry_above before d = option_and_then (λ (e : ℕ × ℕ). if is_above before e.0 then Some e else None) (entry_at register.start_at d)

abbrev pub table_or : Option (List (ℕ × ℕ)) → Result (List (ℕ × ℕ)) ReadError
table_or table = ok_or table BadInitial

-- what stands behind the sessions, where it has the shape of a start
abbrev pub start_read : List Data → Option (Result (List (ℕ × ℕ)) ReadError)
start_read [] = Some (Ok [])
start_read (d ∷ []) = option_map (λ (ds : List Data). table_or (table_of ds)) (elements d)
start_read (d ∷ e ∷ ds) = None

abbrev pub name_or : List ℕ → Result (Unit {0}) ReadError
name_or name = if pointwise nat_eq name (text_of MemoryName) then Ok tt else Err UnknownObject

-- the name, where it is a text
abbrev pub name_read : Data → Option (Result (Unit {0}) ReadError)
name_read d = option_map name_or (as_str d)

-- the parts together, where each has its shape
abbrev pub joined_of : {N S T : Type 0} → Option (Result N ReadError) → Option (Result S ReadError) → Option (Result T ReadError) → Result (T × S) ReadError
joined_of None sessions start = Err BadShape
joined_of (Some name) None start = Err BadShape
joined_of (Some name) (Some sessions) None = Err BadShape
joined_of (Some (Err error)) (Some sessions) (Some start) = Err error
joined_of (Some (Ok name)) (Some (Err error)) (Some start) = Err error
joined_of (Some (Ok name)) (Some (Ok sessions)) (Some (Err error)) = Err error
joined_of (Some (Ok name)) (Some (Ok sessions)) (Some (Ok start)) = Ok (start, sessions)

-- these parts are read as this start and these sessions
pub record ArePartsOf (found : Option (List ℕ × List Data × List Data)) (p : List (ℕ × ℕ) × List (List Entry)) : Type 0 where
  pub sessions : List Data
  pub rest : List Data
  pub parts : found ≡ Some (text_of MemoryName, sessions, rest)
  pub are_sessions : AreSessionsOf sessions p.1
  pub is_start : start_of rest ≡ Some p.0

abbrev pub AreParts : Option (List ℕ × List Data × List Data) → Result (List (ℕ × ℕ) × List (List Entry)) ReadError → Type 0
AreParts found result = MatchResult result (ArePartsOf found) (λ error. parts_refusal found ≡ Some error)

-- the elements of the whole, where it is a list
abbrev pub parts_in : Option (List Data) → Option (List ℕ × List Data × List Data)
parts_in ds = option_and_then parts_among ds

-- a text is a value with these parts
abbrev pub IsWhole : List ℕ → Result (List (ℕ × ℕ) × List (List Entry)) ReadError → Type 0
IsWhole text result = (d : Data) × (read text ≡ Some d) × AreParts (parts_of d) result

-- it is JSON with these parts
abbrev pub IsJsonOf : List ℕ → List (ℕ × ℕ) × List (List Entry) → Type 0
IsJsonOf text p = (d : Data) × IsJson text d × ArePartsOf (parts_of d) p

-- ---- a history that is the first element of a list

-- the first of these elements has these parts, or there is none
abbrev pub IsFirst : List Data → Result (List (ℕ × ℕ) × List (List Entry)) ReadError → Type 0
IsFirst [] result = result ≡ Err BadShape
IsFirst (d ∷ ds) result = AreParts (parts_of d) result

abbrev pub IsFirstIn : Option (List Data) → Result (List (ℕ × ℕ) × List (List Entry)) ReadError → Type 0
IsFirstIn None result = result ≡ Err BadShape
IsFirstIn (Some ds) result = IsFirst ds result

-- a text is a list whose first element has these parts
abbrev pub IsWholeList : List ℕ → Result (List (ℕ × ℕ) × List (List Entry)) ReadError → Type 0
IsWholeList text result = (d : Data) × (read text ≡ Some d) × IsFirstIn (elements d) result

-- it is JSON of such a list
abbrev pub IsJsonList : List ℕ → List (ℕ × ℕ) × List (List Entry) → Type 0
IsJsonList text p = (d : Data) × IsJson text d × IsFirstIn (elements d) (Ok p)
