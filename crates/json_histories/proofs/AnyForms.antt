-- The forms of the histories of each object.
use Rattle.std.proofs.Common.{◌≡◌, ◌≢◌, ◌<◌, ◌^◌, ℕ, Bool, false, List, [], ◌∷◌, map, Option, Some, refl, sym, ap, ◌∙◌}
use Rattle.std.proofs.lemmas.Option.{same_Some}
use Rattle.serde_json.specs.Data.{Data}
use Rattle.serde_json.specs.Written.{has_float}
use Rattle.model_objects.specs.declared.keyed.KeyedCall.{KeyedCall}
use Rattle.json_histories.specs.declared.any_history.AnyHistory.{AnyHistory}
use Rattle.json_histories.specs.declared.any_history.AnyHistory.TheVariants as histories
use Rattle.json_histories.specs.declared.object_name.ObjectName.TheVariants as names
use Rattle.json_histories.specs.declared.read_error.ReadError.{ReadError}
use Rattle.json_histories.specs.declared.read_error.ReadError.TheVariants as errors
use Rattle.json_histories.specs.AnyForm.{IsAnyHistory, IsPlainHistory, IsKeyedHistory, form_of, first_refusal, IsJson, IsRefusedFor}
use Rattle.json_histories.specs.Laws.Call.{no_start_again, no_start_has_no_float}
use Rattle.json_histories.specs.CounterForm as counter
use Rattle.json_histories.specs.Laws.CounterForm as counter_laws
use Rattle.json_histories.specs.Form.{Fits, EachCall, session_form, HaveNoFloats}
use Rattle.model_history.specs.History.{HistoryValue, IsHistory}
use Rattle.json_histories.specs.Laws.KeyedForm.{keyed_again, keyed_has_no_float}
use Rattle.json_histories.specs.ObjectNames.{text_of}
use Rattle.json_histories.specs.Laws.PlainForm.{plain_again, plain_has_no_float}
use Rattle.json_histories.specs.QueueForm as queue
use Rattle.json_histories.specs.Laws.QueueForm as queue_laws
use Rattle.json_histories.specs.Refusals.{IsFirst}
use Rattle.json_histories.specs.RegisterForm as register
use Rattle.json_histories.specs.Laws.RegisterForm as register_laws
use Rattle.json_histories.specs.SetForm as set
use Rattle.json_histories.specs.Laws.SetForm as set_laws
use Rattle.json_histories.specs.Spelled.{IsSpelling}
use Rattle.json_histories.specs.Spelling.{plain_form, plain_at, keyed_form, keyed_at, table_form, table_at, no_start_form, no_start_at}
use Rattle.json_histories.specs.Laws.TableForm.{table_again, table_has_no_float}
use Rattle.json_histories.proofs.AnyHistories.{only_with_name}
use Rattle.json_histories.proofs.HistoryForm.{same_sessions, sessions_read}
use Rattle.json_histories.proofs.PartsForm.{formed}

-- the first refusal of the value of a text is why the text is refused
pub refused_for : (text : List ℕ) (d : Data) (e : ReadError) → IsJson text d → IsFirst (first_refusal d) e → IsRefusedFor text e
refused_for text d errors.NotJson json first = absurd first
refused_for text d errors.BadShape json first = (d, json, first)
refused_for text d errors.UnknownObject json first = (d, json, first)
refused_for text d (errors.BadOp op) json first = (d, json, first)
refused_for text d (errors.ReturnAfterUnknown op) json first = (d, json, first)
refused_for text d errors.TooManySessions json first = (d, json, first)
refused_for text d errors.TooManyOps json first = (d, json, first)
refused_for text d errors.Memory json first = tt
refused_for text d errors.BadInitial json first = (d, json, first)

-- a form has no number that is a float
map_has_no_float : {A : Type 0} (f : A → Data) → ((x : A) → has_float (f x) ≡ false) → (xs : List A) → HaveNoFloats (map f xs)
map_has_no_float f none [] = refl
map_has_no_float f none (x ∷ xs) = rw (none x, map_has_no_float f none xs) refl

pub form_has_no_float : {C R : Type 0} (name : List ℕ) (operation_form : C → Option R → Data) (ss : List (List (C × Option R))) (rest : List Data)
    → ((c : C) (r : Option R) → has_float (operation_form c r) ≡ false) → HaveNoFloats rest
    → has_float (formed (name, map (session_form operation_form) ss, rest)) ≡ false
form_has_no_float name operation_form ss rest operations none =
    rw (map_has_no_float (session_form operation_form) (λ es. map_has_no_float (λ (e : _). operation_form e.0 e.1) (λ e. operations e.0 e.1) es) ss, none) refl

pub any_form_has_no_float : (h : AnyHistory) → has_float (form_of h) ≡ false
any_form_has_no_float (histories.Register h) =
    form_has_no_float (text_of names.Register) (plain_form register.word_of register.arguments register.ret_form) h.1 []
    (plain_has_no_float register_laws.is_spelling) refl
any_form_has_no_float (histories.Counter h) =
    form_has_no_float (text_of names.Counter) (plain_form counter.word_of counter.arguments counter.ret_form) h.1 []
    (plain_has_no_float counter_laws.is_spelling) refl
any_form_has_no_float (histories.Set h) =
    form_has_no_float (text_of names.Set) (plain_form set.word_of set.arguments set.ret_form) h.1 []
    (plain_has_no_float set_laws.is_spelling) refl
any_form_has_no_float (histories.Queue h) =
    form_has_no_float (text_of names.Queue) (plain_form queue.word_of queue.arguments queue.ret_form) h.1 []
    (plain_has_no_float queue_laws.is_spelling) refl
any_form_has_no_float (histories.Memory h) =
    form_has_no_float (text_of names.Memory) (keyed_form register.word_of register.arguments register.ret_form) h.1 (table_form register.start_form h.0)
    (keyed_has_no_float register_laws.is_spelling) (table_has_no_float register.start_form register_laws.start_has_no_float h.0)
any_form_has_no_float (histories.Counters h) =
    form_has_no_float (text_of names.Counters) (keyed_form counter.word_of counter.arguments counter.ret_form) h.1 (table_form no_start_form h.0)
    (keyed_has_no_float counter_laws.is_spelling) (table_has_no_float no_start_form no_start_has_no_float h.0)
any_form_has_no_float (histories.Sets h) =
    form_has_no_float (text_of names.Sets) (keyed_form set.word_of set.arguments set.ret_form) h.1 (table_form no_start_form h.0)
    (keyed_has_no_float set_laws.is_spelling) (table_has_no_float no_start_form no_start_has_no_float h.0)
any_form_has_no_float (histories.Queues h) =
    form_has_no_float (text_of names.Queues) (keyed_form queue.word_of queue.arguments queue.ret_form) h.1 (table_form no_start_form h.0)
    (keyed_has_no_float queue_laws.is_spelling) (table_has_no_float no_start_form no_start_has_no_float h.0)

-- sessions with the same forms are the same
module _ {C R : Type 0} (operation_form : C → Option R → Data) (operation_at : Data → Option (C × Option R)) (fits : C → R → Bool) (is_call : C → Type 0)
    (again : (c : C) (r : Option R) → is_call c → Fits fits c r → operation_at (operation_form c r) ≡ Some (c, r)) where
  sessions_are_the_same : {S : Type 0} (is_start : S → Type 0) (g h : HistoryValue S C R) → IsHistory is_start fits g → IsHistory is_start fits h
      → EachCall is_call g.1 → EachCall is_call h.1 → map (session_form operation_form) g.1 ≡ map (session_form operation_form) h.1 → g.1 ≡ h.1
  sessions_are_the_same is_start g h is_g is_h calls_g calls_h same =
      same_sessions operation_at g.1 h.1 (map (session_form operation_form) g.1)
      (sessions_read operation_at operation_form fits is_call again g.1 is_g.each calls_g)
      (rw same (sessions_read operation_at operation_form fits is_call again h.1 is_h.each calls_h))

-- histories with the same parts are the same
module _ {C R : Type 0} {word_of : C → List ℕ} {arguments : C → List Data} {ret_form : R → List Data}
    {call_at : List ℕ → List Data → Option (C × List Data)} {ret_at : C → List Data → Option R} {fits : C → R → Bool}
    (spelling : IsSpelling word_of arguments ret_form call_at ret_at fits) where
  plain_histories : {S : Type 0} (plain : S) (g h : HistoryValue S C R) → IsPlainHistory plain fits g → IsPlainHistory plain fits h
      → map (session_form (plain_form word_of arguments ret_form)) g.1 ≡ map (session_form (plain_form word_of arguments ret_form)) h.1 → g ≡ h
  plain_histories plain g h is_g is_h same =
      rw (
        is_g.1 ∙ sym is_h.1,
        sessions_are_the_same (plain_form word_of arguments ret_form) (plain_at call_at ret_at) fits (λ _. Unit {0})
            (plain_again spelling)
            (λ _. Unit {0}) g h is_g.0 is_h.0 (λ s i c r here. tt) (λ s i c r here. tt) same,
      ) refl

  keyed_histories : {S : Type 0} (plain : S) (start_form : S → Data) (start_at : Data → Option S)
      → ((s : S) → Unit {0} → s ≢ plain → start_at (start_form s) ≡ Some s)
      → (g h : HistoryValue (List (ℕ × S)) (KeyedCall C) R) → IsKeyedHistory plain fits g → IsKeyedHistory plain fits h
      → map (session_form (keyed_form word_of arguments ret_form)) g.1 ≡ map (session_form (keyed_form word_of arguments ret_form)) h.1
      → table_form start_form g.0 ≡ table_form start_form h.0 → g ≡ h
  keyed_histories plain start_form start_at start_again g h is_g is_h same starts =
      let again_at = table_again plain (λ _. Unit {0}) start_form start_at start_again in
      let same_start : g.0 ≡ h.0 = same_Some g.0 h.0 (sym (again_at g.0 is_g.0.start tt) ∙ ap (table_at start_at) starts ∙ again_at h.0 is_h.0.start tt) in
      rw (
        same_start,
        sessions_are_the_same (keyed_form word_of arguments ret_form) (keyed_at call_at ret_at) (λ c. fits c.call) (λ c. c.key < 2 ^ 32)
            (keyed_again spelling)
            _ g h is_g.0 is_h.0 is_g.1 is_h.1 same,
      ) refl

pub any_forms_are_distinct : (g h : AnyHistory) → IsAnyHistory g → IsAnyHistory h → form_of g ≡ form_of h → g ≡ h
any_forms_are_distinct (histories.Register g) h is_g is_h same =
    only_with_name names.Register (map (session_form (plain_form register.word_of register.arguments register.ret_form)) g.1) [] (λ x. histories.Register g ≡ x)
    (λ x is sessions start. ap histories.Register (plain_histories register_laws.is_spelling 0 g x is_g is sessions))
    h is_h same
any_forms_are_distinct (histories.Counter g) h is_g is_h same =
    only_with_name names.Counter (map (session_form (plain_form counter.word_of counter.arguments counter.ret_form)) g.1) [] (λ x. histories.Counter g ≡ x)
    (λ x is sessions start. ap histories.Counter (plain_histories counter_laws.is_spelling tt g x is_g is sessions))
    h is_h same
any_forms_are_distinct (histories.Set g) h is_g is_h same =
    only_with_name names.Set (map (session_form (plain_form set.word_of set.arguments set.ret_form)) g.1) [] (λ x. histories.Set g ≡ x)
    (λ x is sessions start. ap histories.Set (plain_histories set_laws.is_spelling tt g x is_g is sessions))
    h is_h same
any_forms_are_distinct (histories.Queue g) h is_g is_h same =
    only_with_name names.Queue (map (session_form (plain_form queue.word_of queue.arguments queue.ret_form)) g.1) [] (λ x. histories.Queue g ≡ x)
    (λ x is sessions start. ap histories.Queue (plain_histories queue_laws.is_spelling tt g x is_g is sessions))
    h is_h same
any_forms_are_distinct (histories.Memory g) h is_g is_h same =
    only_with_name names.Memory (map (session_form (keyed_form register.word_of register.arguments register.ret_form)) g.1) (table_form register.start_form g.0) (λ x. histories.Memory g ≡ x)
    (λ x is sessions start. ap histories.Memory (keyed_histories register_laws.is_spelling 0 register.start_form register.start_at register_laws.start_again g x is_g is sessions start))
    h is_h same
any_forms_are_distinct (histories.Counters g) h is_g is_h same =
    only_with_name names.Counters (map (session_form (keyed_form counter.word_of counter.arguments counter.ret_form)) g.1) (table_form no_start_form g.0) (λ x. histories.Counters g ≡ x)
    (λ x is sessions start. ap histories.Counters (keyed_histories counter_laws.is_spelling tt no_start_form no_start_at no_start_again g x is_g is sessions start))
    h is_h same
any_forms_are_distinct (histories.Sets g) h is_g is_h same =
    only_with_name names.Sets (map (session_form (keyed_form set.word_of set.arguments set.ret_form)) g.1) (table_form no_start_form g.0) (λ x. histories.Sets g ≡ x)
    (λ x is sessions start. ap histories.Sets (keyed_histories set_laws.is_spelling tt no_start_form no_start_at no_start_again g x is_g is sessions start))
    h is_h same
any_forms_are_distinct (histories.Queues g) h is_g is_h same =
    only_with_name names.Queues (map (session_form (keyed_form queue.word_of queue.arguments queue.ret_form)) g.1) (table_form no_start_form g.0) (λ x. histories.Queues g ≡ x)
    (λ x is sessions start. ap histories.Queues (keyed_histories queue_laws.is_spelling tt no_start_form no_start_at no_start_again g x is_g is sessions start))
    h is_h same
