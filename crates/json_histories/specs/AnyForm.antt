-- The form of a history of any object that has a name, and which refusal comes first where a text is none.
use Rattle.std.specs.Prelude.{◌≡◌, ⊤, ℕ, ◌<◌, ◌^◌, List, Bool, Option, Some, None, Result, IfOk, IfErr, MatchResult}
use Rattle.serde_json.specs.Data.{Data}
pub use Rattle.json_bounded.specs.Text.{IsJson}
use Rattle.model_objects.specs.AddRemoveSet.{matches as set_matches}
use Rattle.model_objects.specs.Counter.{matches as counter_matches}
use Rattle.model_objects.specs.Queue.{matches as queue_matches}
use Rattle.model_objects.specs.Register.{matches as register_matches}
use Rattle.model_objects.specs.Table.{IsTable}
use Rattle.model_objects.specs.declared.keyed.KeyedCall.{KeyedCall}
use Rattle.json_histories.specs.declared.any_history.AnyHistory.{AnyHistory}
use Rattle.json_histories.specs.declared.any_history.AnyHistory.TheVariants as histories
use Rattle.json_histories.specs.declared.object_name.ObjectName.{ObjectName}
use Rattle.json_histories.specs.declared.object_name.ObjectName.TheVariants as names
use Rattle.json_histories.specs.declared.read_error.ReadError.{ReadError}
use Rattle.json_histories.specs.declared.read_error.ReadError.TheVariants as errors
use Rattle.json_histories.specs.CounterForm as counter
use Rattle.json_histories.specs.Form.{EachCall, history_form}
use Rattle.model_history.specs.History.{HistoryValue, IsHistory}
use Rattle.json_histories.specs.ObjectNames.{text_of, name_at}
use Rattle.json_histories.specs.QueueForm as queue
use Rattle.json_histories.specs.Reading.{parts_of, named_refusal}
use Rattle.json_histories.specs.Refusals.{IsFirst}
use Rattle.json_histories.specs.RegisterForm as register
use Rattle.json_histories.specs.SetForm as set
use Rattle.json_histories.specs.Spelling.{plain_form, plain_at, plain_start_form, plain_start_at, keyed_form, keyed_at, table_form, table_at, no_start_form, no_start_at}

module _ {S C R : Type 0} where
  -- the form of a history of an object without keys, and of one under keys
  abbrev pub plain_history_form : (C → List ℕ) → (C → List Data) → (R → List Data) → ObjectName → HistoryValue S C R → Data
  plain_history_form word_of arguments ret_form name h = history_form (text_of name) (plain_form word_of arguments ret_form) plain_start_form h

  abbrev pub keyed_history_form : (C → List ℕ) → (C → List Data) → (R → List Data) → (S → Data) → ObjectName → HistoryValue (List (ℕ × S)) (KeyedCall C) R → Data
  keyed_history_form word_of arguments ret_form start_form name h =
      history_form (text_of name) (keyed_form word_of arguments ret_form) (table_form start_form) h

  -- a history from the plain start
  abbrev pub IsPlainHistory : S → (C → R → Bool) → HistoryValue S C R → Type 0
  IsPlainHistory plain fits h = IsHistory (λ _. Unit {0}) fits h × (h.0 ≡ plain)

  -- a history whose start is a table of other starts than the plain one, with keys that fit their type
  abbrev pub IsKeyedHistory : S → (C → R → Bool) → HistoryValue (List (ℕ × S)) (KeyedCall C) R → Type 0
  IsKeyedHistory plain fits h = IsHistory (IsTable plain (λ _. Unit {0})) (λ c. fits c.call) h × EachCall (λ c. c.key < 2 ^ 32) h.1

-- the form of a history: the name of its object, its sessions, and its start where it has one
abbrev pub form_of : AnyHistory → Data
form_of (histories.Register h) = plain_history_form register.word_of register.arguments register.ret_form names.Register h
form_of (histories.Counter h) = plain_history_form counter.word_of counter.arguments counter.ret_form names.Counter h
form_of (histories.Set h) = plain_history_form set.word_of set.arguments set.ret_form names.Set h
form_of (histories.Queue h) = plain_history_form queue.word_of queue.arguments queue.ret_form names.Queue h
form_of (histories.Memory h) = keyed_history_form register.word_of register.arguments register.ret_form register.start_form names.Memory h
form_of (histories.Counters h) = keyed_history_form counter.word_of counter.arguments counter.ret_form no_start_form names.Counters h
form_of (histories.Sets h) = keyed_history_form set.word_of set.arguments set.ret_form no_start_form names.Sets h
form_of (histories.Queues h) = keyed_history_form queue.word_of queue.arguments queue.ret_form no_start_form names.Queues h

-- a history: each known return fits its call
abbrev pub IsAnyHistory : AnyHistory → Type 0
IsAnyHistory (histories.Register h) = IsPlainHistory 0 register_matches h
IsAnyHistory (histories.Counter h) = IsPlainHistory tt counter_matches h
IsAnyHistory (histories.Set h) = IsPlainHistory tt set_matches h
IsAnyHistory (histories.Queue h) = IsPlainHistory tt queue_matches h
IsAnyHistory (histories.Memory h) = IsKeyedHistory 0 register_matches h
IsAnyHistory (histories.Counters h) = IsKeyedHistory tt counter_matches h
IsAnyHistory (histories.Sets h) = IsKeyedHistory tt set_matches h
IsAnyHistory (histories.Queues h) = IsKeyedHistory tt queue_matches h

-- by the object, the refusal of what follows its name
abbrev pub refusal_of_object : ObjectName → List Data → List Data → Option ReadError
refusal_of_object names.Register = named_refusal (plain_at register.call_at register.ret_at) (plain_start_at {S = ℕ} 0)
refusal_of_object names.Counter = named_refusal (plain_at counter.call_at counter.ret_at) (plain_start_at (tt {0}))
refusal_of_object names.Set = named_refusal (plain_at set.call_at set.ret_at) (plain_start_at (tt {0}))
refusal_of_object names.Queue = named_refusal (plain_at queue.call_at queue.ret_at) (plain_start_at (tt {0}))
refusal_of_object names.Memory = named_refusal (keyed_at register.call_at register.ret_at) (table_at register.start_at)
refusal_of_object names.Counters = named_refusal (keyed_at counter.call_at counter.ret_at) (table_at no_start_at)
refusal_of_object names.Sets = named_refusal (keyed_at set.call_at set.ret_at) (table_at no_start_at)
refusal_of_object names.Queues = named_refusal (keyed_at queue.call_at queue.ret_at) (table_at no_start_at)

-- by the name, the refusal of what follows it
abbrev pub refusal_by_name : Option ObjectName → List Data → List Data → Option ReadError
refusal_by_name None sessions rest = Some errors.UnknownObject
refusal_by_name (Some name) sessions rest = refusal_of_object name sessions rest

abbrev pub parts_refusal : Option (List ℕ × List Data × List Data) → Option ReadError
parts_refusal None = Some errors.BadShape
parts_refusal (Some p) = refusal_by_name (name_at p.0) p.1 p.2

-- the first refusal of a JSON value, or none
abbrev pub first_refusal : Data → Option ReadError
first_refusal d = parts_refusal (parts_of d)

-- what a reader owes of a JSON value with this first refusal: a history, with this form and no other, or the refusal
pub record IsReadAs (d : Data) (refusal : Option ReadError) (result : Result AnyHistory ReadError) : Type 0 where
  pub is_history : IfOk result IsAnyHistory
  pub form : IfOk result (λ h. d ≡ form_of h)
  pub only : (h : AnyHistory) → IsAnyHistory h → d ≡ form_of h → MatchResult result (λ g. g ≡ h) (λ e. e ≡ errors.Memory)
  pub refused : IfErr result (IsFirst refusal)

-- why a text is refused: it is no JSON, or its value has this first refusal
abbrev pub IsRefusedFor : List ℕ → ReadError → Type 0
IsRefusedFor text errors.NotJson = (d : Data) → ¬ IsJson text d
IsRefusedFor text errors.Memory = ⊤
IsRefusedFor text errors.BadShape = (d : Data) × IsJson text d × (first_refusal d ≡ Some errors.BadShape)
IsRefusedFor text errors.UnknownObject = (d : Data) × IsJson text d × (first_refusal d ≡ Some errors.UnknownObject)
IsRefusedFor text (errors.BadOp op) = (d : Data) × IsJson text d × (first_refusal d ≡ Some (errors.BadOp op))
IsRefusedFor text (errors.ReturnAfterUnknown op) = (d : Data) × IsJson text d × (first_refusal d ≡ Some (errors.ReturnAfterUnknown op))
IsRefusedFor text errors.TooManySessions = (d : Data) × IsJson text d × (first_refusal d ≡ Some errors.TooManySessions)
IsRefusedFor text errors.TooManyOps = (d : Data) × IsJson text d × (first_refusal d ≡ Some errors.TooManyOps)
IsRefusedFor text errors.BadInitial = (d : Data) × IsJson text d × (first_refusal d ≡ Some errors.BadInitial)
