-- The form of a history is not refused.
use Rattle.std.proofs.Common.{◌≡◌, ◌≢◌, ◌<◌, ◌^◌, ℕ, Bool, List, [], ◌∷◌, map, Option, Some, None, ap, ◌∙◌}
use Rattle.std.specs.Option.{option_or}
use Rattle.serde_json.specs.Data.{Data}
use Rattle.model_objects.specs.declared.keyed.KeyedCall.{KeyedCall}
use Rattle.model_history.specs.History.{HistoryValue}
use Rattle.json_histories.specs.declared.any_history.AnyHistory.{AnyHistory}
use Rattle.json_histories.specs.declared.any_history.AnyHistory.TheVariants as histories
use Rattle.json_histories.specs.declared.object_name.ObjectName.TheVariants as names
use Rattle.json_histories.specs.declared.read_error.ReadError.{ReadError}
use Rattle.json_histories.specs.AnyForm.{IsAnyHistory, IsPlainHistory, IsKeyedHistory, form_of, first_refusal, parts_refusal}
use Rattle.json_histories.specs.Laws.Call.{no_start_again}
use Rattle.json_histories.specs.CounterForm as counter
use Rattle.json_histories.specs.Laws.CounterForm as counter_laws
use Rattle.json_histories.specs.Form.{session_form}
use Rattle.json_histories.specs.Laws.KeyedForm.{keyed_again}
use Rattle.json_histories.specs.ObjectNames.{text_of}
use Rattle.json_histories.specs.Laws.PlainForm.{plain_again}
use Rattle.json_histories.specs.QueueForm as queue
use Rattle.json_histories.specs.Laws.QueueForm as queue_laws
use Rattle.json_histories.specs.Reading.{named_refusal, parts_of, start_refusal}
use Rattle.json_histories.specs.RegisterForm as register
use Rattle.json_histories.specs.Laws.RegisterForm as register_laws
use Rattle.json_histories.specs.SetForm as set
use Rattle.json_histories.specs.Laws.SetForm as set_laws
use Rattle.json_histories.specs.Spelled.{IsSpelling}
use Rattle.json_histories.specs.Spelling.{plain_form, plain_at, plain_start_at, keyed_form, keyed_at, entry_form, table_form, table_at, no_start_form, no_start_at}
use Rattle.json_histories.specs.Laws.TableForm.{table_again}
use Rattle.json_histories.proofs.HistoryForm.{sessions_fine, sessions_read}
use Rattle.json_histories.proofs.PartsForm.{formed, parts_again, parts_again_with_start}

-- the parts of a form with a table
parts_with_table : {S : Type 0} (name : List ℕ) (sessions : List Data) (start_form : S → Data) (es : List (ℕ × S))
    → parts_of (formed (name, sessions, table_form start_form es)) ≡ Some (name, sessions, table_form start_form es)
parts_with_table name sessions start_form [] = parts_again name sessions
parts_with_table name sessions start_form (e ∷ es) = parts_again_with_start name sessions (map (entry_form start_form) (e ∷ es))

module _ {C R : Type 0} {word_of : C → List ℕ} {arguments : C → List Data} {ret_form : R → List Data}
    {call_at : List ℕ → List Data → Option (C × List Data)} {ret_at : C → List Data → Option R} {fits : C → R → Bool}
    (spelling : IsSpelling word_of arguments ret_form call_at ret_at fits) where
  plain_fine : {S : Type 0} (plain : S) (h : HistoryValue S C R) → IsPlainHistory plain fits h
      → named_refusal (plain_at call_at ret_at) (plain_start_at plain) (map (session_form (plain_form word_of arguments ret_form)) h.1) [] ≡ None
  plain_fine plain h is =
      let read =
      sessions_read (plain_at call_at ret_at) (plain_form word_of arguments ret_form) fits (λ _. Unit {0})
      (plain_again spelling) h.1 is.0.each (λ s i c r here. tt) in
      ap (λ (o : Option ReadError). option_or o (start_refusal (plain_start_at plain [])))
      (sessions_fine (plain_at call_at ret_at) fits (map (session_form (plain_form word_of arguments ret_form)) h.1) h.1 read is.0.each is.0.few)

  keyed_fine : {S : Type 0} (plain : S) (start_form : S → Data) (start_at : Data → Option S)
      → ((s : S) → Unit {0} → s ≢ plain → start_at (start_form s) ≡ Some s)
      → (h : HistoryValue (List (ℕ × S)) (KeyedCall C) R) → IsKeyedHistory plain fits h
      → named_refusal (keyed_at call_at ret_at) (table_at start_at) (map (session_form (keyed_form word_of arguments ret_form)) h.1) (table_form start_form h.0) ≡ None
  keyed_fine plain start_form start_at start_again h is =
      let ss = map (session_form (keyed_form word_of arguments ret_form)) h.1 in
      let read =
      sessions_read (keyed_at call_at ret_at) (keyed_form word_of arguments ret_form) (λ (c : KeyedCall C). fits c.call) (λ (c : KeyedCall C). c.key < 2 ^ 32)
      (keyed_again spelling) h.1 is.0.each is.1 in
      ap (λ (o : Option ReadError). option_or o (start_refusal (table_at start_at (table_form start_form h.0))))
      (sessions_fine (keyed_at call_at ret_at) (λ (c : KeyedCall C). fits c.call) ss h.1 read is.0.each is.0.few)
      ∙ ap start_refusal (table_again plain (λ _. Unit {0}) start_form start_at start_again h.0 is.0.start tt)

pub form_is_fine : (h : AnyHistory) → IsAnyHistory h → first_refusal (form_of h) ≡ None
form_is_fine (histories.Register h) is =
    ap parts_refusal (parts_again (text_of names.Register) (map (session_form (plain_form register.word_of register.arguments register.ret_form)) h.1))
    ∙ plain_fine register_laws.is_spelling 0 h is
form_is_fine (histories.Counter h) is =
    ap parts_refusal (parts_again (text_of names.Counter) (map (session_form (plain_form counter.word_of counter.arguments counter.ret_form)) h.1))
    ∙ plain_fine counter_laws.is_spelling tt h is
form_is_fine (histories.Set h) is =
    ap parts_refusal (parts_again (text_of names.Set) (map (session_form (plain_form set.word_of set.arguments set.ret_form)) h.1))
    ∙ plain_fine set_laws.is_spelling tt h is
form_is_fine (histories.Queue h) is =
    ap parts_refusal (parts_again (text_of names.Queue) (map (session_form (plain_form queue.word_of queue.arguments queue.ret_form)) h.1))
    ∙ plain_fine queue_laws.is_spelling tt h is
form_is_fine (histories.Memory h) is =
    ap parts_refusal (parts_with_table (text_of names.Memory) (map (session_form (keyed_form register.word_of register.arguments register.ret_form)) h.1) register.start_form h.0)
    ∙ keyed_fine register_laws.is_spelling 0 register.start_form register.start_at register_laws.start_again h is
form_is_fine (histories.Counters h) is =
    ap parts_refusal (parts_with_table (text_of names.Counters) (map (session_form (keyed_form counter.word_of counter.arguments counter.ret_form)) h.1) no_start_form h.0)
    ∙ keyed_fine counter_laws.is_spelling tt no_start_form no_start_at no_start_again h is
form_is_fine (histories.Sets h) is =
    ap parts_refusal (parts_with_table (text_of names.Sets) (map (session_form (keyed_form set.word_of set.arguments set.ret_form)) h.1) no_start_form h.0)
    ∙ keyed_fine set_laws.is_spelling tt no_start_form no_start_at no_start_again h is
form_is_fine (histories.Queues h) is =
    ap parts_refusal (parts_with_table (text_of names.Queues) (map (session_form (keyed_form queue.word_of queue.arguments queue.ret_form)) h.1) no_start_form h.0)
    ∙ keyed_fine queue_laws.is_spelling tt no_start_form no_start_at no_start_again h is
