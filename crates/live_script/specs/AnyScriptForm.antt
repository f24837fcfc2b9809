-- The form of a script of any object that has a name, and which refusal comes first where a text is none.
use Rattle.std.specs.Prelude.{◌≡◌, ◌≢◌, ⊤, ℕ, ◌<◌, ◌^◌, List}
use Rattle.serde_json.specs.Data.{Data}
use Rattle.model_objects.specs.Table.{IsTable}
use Rattle.model_objects.specs.declared.keyed.KeyedCall.{KeyedCall}
use Rattle.json_histories.specs.declared.object_name.ObjectName.{ObjectName}
use Rattle.json_histories.specs.declared.object_name.ObjectName.TheVariants as names
use Rattle.json_histories.specs.AnyForm.{IsJson}
use Rattle.json_histories.specs.CounterForm as counter
use Rattle.json_histories.specs.LoneForm.{keyed_call_form, lone_return_form, plain_call_form}
use Rattle.json_histories.specs.ObjectNames.{text_of}
use Rattle.json_histories.specs.QueueForm as queue
use Rattle.json_histories.specs.RegisterForm as register
use Rattle.json_histories.specs.SetForm as set
use Rattle.json_histories.specs.Spelling.{no_start_form, plain_start_form, table_form}
use Rattle.live_script.specs.ScriptForm.{Parts, ScriptValue, AreParts, IsNumberOfSessions, IsRefusalOf, IsScript, parts_form, script_parts}
use Rattle.live_script.specs.declared.any_script.AnyScript.{AnyScript}
use Rattle.live_script.specs.declared.any_script.AnyScript.TheVariants as scripts
use Rattle.live_script.specs.declared.script_error.ScriptError.{ScriptError}
use Rattle.live_script.specs.declared.script_error.ScriptError.TheVariants.{NotJson, BadShape, UnknownObject, BadLimits, Memory}

-- a script for an object without keys, from the plain start; and for one under keys, from a table of other starts than the
-- plain one, with keys that fit their type
abbrev pub IsPlainScript : {S C R : Type 0} → S → ScriptValue S C R → Type 0
IsPlainScript plain script = IsScript (λ _. Unit {0}) (λ _. Unit {0}) (λ start. start ≡ plain) script

abbrev pub IsKeyedScript : {S C R : Type 0} → S → ScriptValue (List (ℕ × S)) (KeyedCall C) R → Type 0
IsKeyedScript plain script = IsScript (λ c. c.key < 2 ^ 32) (IsTable plain (λ _. Unit {0})) (λ _. Unit {0}) script

module _ {S C R : Type 0} (word_of : C → List ℕ) (arguments : C → List Data) (ret_form : R → List Data) where
  -- the parts of the form of a script for an object without keys, and for one under keys
  abbrev pub plain_parts : ObjectName → ScriptValue S C R → Parts
  plain_parts name script = script_parts (plain_call_form word_of arguments) (lone_return_form ret_form) plain_start_form (text_of name) script

  abbrev pub keyed_parts : (S → Data) → ObjectName → ScriptValue (List (ℕ × S)) (KeyedCall C) R → Parts
  keyed_parts start_form name script =
      script_parts (keyed_call_form word_of arguments) (lone_return_form ret_form) (table_form start_form) (text_of name) script

  -- why the steps and the start of such a script are refused
  abbrev pub IsPlainRefusal : S → ℕ → List Data → List Data → ScriptError → Type 0
  IsPlainRefusal plain k steps rest refusal =
      IsRefusalOf (plain_call_form word_of arguments) (lone_return_form ret_form) (λ _. Unit {0}) k
      plain_start_form (λ _. Unit {0}) (λ start. start ≡ plain) steps rest refusal

  abbrev pub IsKeyedRefusal : S → (S → Data) → ℕ → List Data → List Data → ScriptError → Type 0
  IsKeyedRefusal plain start_form k steps rest refusal =
      IsRefusalOf (keyed_call_form word_of arguments) (lone_return_form ret_form) (λ c. c.key < 2 ^ 32) k
      (table_form start_form) (IsTable plain (λ _. Unit {0})) (λ _. Unit {0}) steps rest refusal

-- a script: its calls and its start are of the types of its object, and its steps are not too many
abbrev pub IsAnyScript : AnyScript → Type 0
IsAnyScript (scripts.Register s) = IsPlainScript 0 s
IsAnyScript (scripts.Counter s) = IsPlainScript tt s
IsAnyScript (scripts.Set s) = IsPlainScript tt s
IsAnyScript (scripts.Queue s) = IsPlainScript tt s
IsAnyScript (scripts.Memory s) = IsKeyedScript 0 s
IsAnyScript (scripts.Counters s) = IsKeyedScript tt s
IsAnyScript (scripts.Sets s) = IsKeyedScript tt s
IsAnyScript (scripts.Queues s) = IsKeyedScript tt s

-- the form of a script: the name of its object, its number of sessions, its steps, and its start where it has one
abbrev pub parts_of : AnyScript → Parts
parts_of (scripts.Register s) = plain_parts register.word_of register.arguments register.ret_form names.Register s
parts_of (scripts.Counter s) = plain_parts counter.word_of counter.arguments counter.ret_form names.Counter s
parts_of (scripts.Set s) = plain_parts set.word_of set.arguments set.ret_form names.Set s
parts_of (scripts.Queue s) = plain_parts queue.word_of queue.arguments queue.ret_form names.Queue s
parts_of (scripts.Memory s) = keyed_parts register.word_of register.arguments register.ret_form register.start_form names.Memory s
parts_of (scripts.Counters s) = keyed_parts counter.word_of counter.arguments counter.ret_form no_start_form names.Counters s
parts_of (scripts.Sets s) = keyed_parts set.word_of set.arguments set.ret_form no_start_form names.Sets s
parts_of (scripts.Queues s) = keyed_parts queue.word_of queue.arguments queue.ret_form no_start_form names.Queues s

abbrev pub form_of : AnyScript → Data
form_of script = parts_form (parts_of script)

-- by the object, why the steps and the start of a script are refused
abbrev pub IsRefusalBy : ObjectName → ℕ → List Data → List Data → ScriptError → Type 0
IsRefusalBy names.Register = IsPlainRefusal {S = ℕ} register.word_of register.arguments register.ret_form 0
IsRefusalBy names.Counter = IsPlainRefusal counter.word_of counter.arguments counter.ret_form (tt {0})
IsRefusalBy names.Set = IsPlainRefusal set.word_of set.arguments set.ret_form (tt {0})
IsRefusalBy names.Queue = IsPlainRefusal queue.word_of queue.arguments queue.ret_form (tt {0})
IsRefusalBy names.Memory = IsKeyedRefusal {S = ℕ} register.word_of register.arguments register.ret_form 0 register.start_form
IsRefusalBy names.Counters = IsKeyedRefusal counter.word_of counter.arguments counter.ret_form (tt {0}) no_start_form
IsRefusalBy names.Sets = IsKeyedRefusal set.word_of set.arguments set.ret_form (tt {0}) no_start_form
IsRefusalBy names.Queues = IsKeyedRefusal queue.word_of queue.arguments queue.ret_form (tt {0}) no_start_form

-- why a value with these parts is refused as a script: no object has the name, there are no sessions or too many, or its steps
-- or its start are refused
abbrev pub ArePartsRefused : Parts → ScriptError → Type 0
ArePartsRefused p UnknownObject = (name : ObjectName) → p.name ≢ text_of name
ArePartsRefused p BadLimits = (name : ObjectName) × (p.name ≡ text_of name) × ¬ IsNumberOfSessions p.sessions
ArePartsRefused p refusal =
    (name : ObjectName) × (p.name ≡ text_of name) × IsNumberOfSessions p.sessions × IsRefusalBy name p.sessions p.steps p.rest refusal

-- why a value is refused as a script: it has no such parts, or is refused by its parts; or memory ran out
abbrev pub IsRefusedAs : Data → ScriptError → Type 0
IsRefusedAs d NotJson = ⊥
IsRefusedAs d BadShape = (p : Parts) → AreParts p → d ≢ parts_form p
IsRefusedAs d Memory = ⊤
IsRefusedAs d refusal = (p : Parts) × (d ≡ parts_form p) × AreParts p × ArePartsRefused p refusal

-- why a text is refused: it is no JSON, or so is its value
abbrev pub IsRefusedFor : List ℕ → ScriptError → Type 0
IsRefusedFor text NotJson = (d : Data) → ¬ IsJson text d
IsRefusedFor text Memory = ⊤
IsRefusedFor text refusal = (d : Data) × IsJson text d × IsRefusedAs d refusal
