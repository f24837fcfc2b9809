-- The histories of all objects, each by its name: the parts of their forms, and what no other history has.
use Rattle.std.proofs.Common.{◌≡◌, ℕ, List, [], ◌∷◌, map, Some, codes, subst, refl, sym, ap, ◌∙◌, ⊎_elim}
use Rattle.std.proofs.lemmas.Option.{same_Some}
use Rattle.serde_json.specs.Data.{Data, string}
use Rattle.serde_json.specs.Find.{as_str}
use Rattle.model_objects.specs.declared.keyed.KeyedCall.{KeyedCall}
use Rattle.model_objects.specs.declared.add_remove_set.SetCall.{SetCall}
use Rattle.model_objects.specs.declared.add_remove_set.SetRet.{SetRet}
use Rattle.model_objects.specs.declared.counter.CounterCall.{CounterCall}
use Rattle.model_objects.specs.declared.counter.CounterRet.{CounterRet}
use Rattle.model_objects.specs.declared.queue.QueueCall.{QueueCall}
use Rattle.model_objects.specs.declared.queue.QueueRet.{QueueRet}
use Rattle.model_objects.specs.declared.register.RegisterCall.{RegisterCall}
use Rattle.model_objects.specs.declared.register.RegisterRet.{RegisterRet}
use Rattle.json_histories.specs.declared.any_history.AnyHistory.{AnyHistory}
use Rattle.json_histories.specs.declared.any_history.AnyHistory.TheVariants as histories
use Rattle.json_histories.specs.declared.object_name.ObjectName.{ObjectName}
use Rattle.json_histories.specs.declared.object_name.ObjectName.TheVariants as names
use Rattle.json_histories.specs.AnyForm.{IsAnyHistory, form_of}
use Rattle.json_histories.specs.Laws.Call.{by_word}
use Rattle.json_histories.specs.CounterForm as counter
use Rattle.json_histories.specs.Form.{session_form}
use Rattle.model_history.specs.History.{HistoryValue}
use Rattle.json_histories.specs.Json.{list, elements}
use Rattle.json_histories.specs.ObjectNames.{text_of, name_at, keyed_name_at}
use Rattle.json_histories.specs.QueueForm as queue
use Rattle.json_histories.specs.Reading.{parts_of}
use Rattle.json_histories.specs.RegisterForm as register
use Rattle.json_histories.specs.SetForm as set
use Rattle.json_histories.specs.Spelling.{plain_form, keyed_form, table_form, no_start_form}
use Rattle.json_histories.proofs.JsonLists.{elements-list}
use Rattle.json_histories.proofs.PartsForm.{Parts, formed, parts_formed}

-- a history of the object with a name
abbrev pub RecordOf : ObjectName → Type 0
RecordOf names.Register = HistoryValue ℕ RegisterCall RegisterRet
RecordOf names.Counter = HistoryValue (Unit {0}) CounterCall CounterRet
RecordOf names.Set = HistoryValue (Unit {0}) SetCall SetRet
RecordOf names.Queue = HistoryValue (Unit {0}) QueueCall QueueRet
RecordOf names.Memory = HistoryValue (List (ℕ × ℕ)) (KeyedCall RegisterCall) RegisterRet
RecordOf names.Counters = HistoryValue (List (ℕ × Unit {0})) (KeyedCall CounterCall) CounterRet
RecordOf names.Sets = HistoryValue (List (ℕ × Unit {0})) (KeyedCall SetCall) SetRet
RecordOf names.Queues = HistoryValue (List (ℕ × Unit {0})) (KeyedCall QueueCall) QueueRet

abbrev pub history_from : (name : ObjectName) → RecordOf name → AnyHistory
history_from names.Register h = histories.Register h
history_from names.Counter h = histories.Counter h
history_from names.Set h = histories.Set h
history_from names.Queue h = histories.Queue h
history_from names.Memory h = histories.Memory h
history_from names.Counters h = histories.Counters h
history_from names.Sets h = histories.Sets h
history_from names.Queues h = histories.Queues h

-- the parts of its form
abbrev pub name_of : AnyHistory → ObjectName
name_of (histories.Register h) = names.Register
name_of (histories.Counter h) = names.Counter
name_of (histories.Set h) = names.Set
name_of (histories.Queue h) = names.Queue
name_of (histories.Memory h) = names.Memory
name_of (histories.Counters h) = names.Counters
name_of (histories.Sets h) = names.Sets
name_of (histories.Queues h) = names.Queues

abbrev pub sessions_of : AnyHistory → List Data
sessions_of (histories.Register h) = map (session_form (plain_form register.word_of register.arguments register.ret_form)) h.1
sessions_of (histories.Counter h) = map (session_form (plain_form counter.word_of counter.arguments counter.ret_form)) h.1
sessions_of (histories.Set h) = map (session_form (plain_form set.word_of set.arguments set.ret_form)) h.1
sessions_of (histories.Queue h) = map (session_form (plain_form queue.word_of queue.arguments queue.ret_form)) h.1
sessions_of (histories.Memory h) = map (session_form (keyed_form register.word_of register.arguments register.ret_form)) h.1
sessions_of (histories.Counters h) = map (session_form (keyed_form counter.word_of counter.arguments counter.ret_form)) h.1
sessions_of (histories.Sets h) = map (session_form (keyed_form set.word_of set.arguments set.ret_form)) h.1
sessions_of (histories.Queues h) = map (session_form (keyed_form queue.word_of queue.arguments queue.ret_form)) h.1

abbrev pub rest_of : AnyHistory → List Data
rest_of (histories.Register h) = []
rest_of (histories.Counter h) = []
rest_of (histories.Set h) = []
rest_of (histories.Queue h) = []
rest_of (histories.Memory h) = table_form register.start_form h.0
rest_of (histories.Counters h) = table_form no_start_form h.0
rest_of (histories.Sets h) = table_form no_start_form h.0
rest_of (histories.Queues h) = table_form no_start_form h.0

pub form_from : (name : ObjectName) (h : RecordOf name) → form_of (history_from name h) ≡ formed (text_of name, sessions_of (history_from name h), rest_of (history_from name h))
form_from names.Register h = refl
form_from names.Counter h = refl
form_from names.Set h = refl
form_from names.Queue h = refl
form_from names.Memory h = refl
form_from names.Counters h = refl
form_from names.Sets h = refl
form_from names.Queues h = refl

is_from : (h : AnyHistory) → (r : RecordOf (name_of h)) × (history_from (name_of h) r ≡ h)
is_from (histories.Register h) = (h, refl)
is_from (histories.Counter h) = (h, refl)
is_from (histories.Set h) = (h, refl)
is_from (histories.Queue h) = (h, refl)
is_from (histories.Memory h) = (h, refl)
is_from (histories.Counters h) = (h, refl)
is_from (histories.Sets h) = (h, refl)
is_from (histories.Queues h) = (h, refl)

form_is : (h : AnyHistory) → form_of h ≡ formed (text_of (name_of h), sessions_of h, rest_of h)
form_is h =
    let from = is_from h in
    subst (λ (x : AnyHistory). form_of x ≡ formed (text_of (name_of h), sessions_of x, rest_of x)) from.1 (form_from (name_of h) from.0)

name_again : (name : ObjectName) → name_at (text_of name) ≡ Some name
name_again names.Register = refl
name_again names.Counter = refl
name_again names.Set = refl
name_again names.Queue = refl
name_again names.Memory = refl
name_again names.Counters = refl
name_again names.Sets = refl
name_again names.Queues = refl

-- equal forms have equal parts
parts_of_list : (a b : List ℕ) (ss ts rest more : List Data) → string a ∷ list ss ∷ rest ≡ string b ∷ list ts ∷ more → (a ≡ b) × (ss ≡ ts) × (rest ≡ more)
parts_of_list a b ss ts rest more e =
    let name : string a ≡ string b = cc in
    let sessions : list ss ≡ list ts = cc in
    let behind : rest ≡ more = cc in
    (same_Some a b (ap as_str name), same_Some ss ts (sym (elements-list ss) ∙ ap elements sessions ∙ elements-list ts), behind)

same_parts : (a b : List ℕ) (ss ts rest more : List Data) → formed (a, ss, rest) ≡ formed (b, ts, more) → (a ≡ b) × (ss ≡ ts) × (rest ≡ more)
same_parts a b ss ts rest more e =
    parts_of_list a b ss ts rest more
    (same_Some _ _ (sym (elements-list (string a ∷ list ss ∷ rest)) ∙ ap elements e ∙ elements-list (string b ∷ list ts ∷ more)))

same_name : (a b : ObjectName) → text_of a ≡ text_of b → a ≡ b
same_name a b e = same_Some a b (sym (name_again a) ∙ ap name_at e ∙ name_again b)

-- a history with this form is one of the object with this name, and has these parts
pub only_with_name : (name : ObjectName) (ss rest : List Data) (P : AnyHistory → Type 0)
    → ((r : RecordOf name) → IsAnyHistory (history_from name r) → ss ≡ sessions_of (history_from name r) → rest ≡ rest_of (history_from name r) → P (history_from name r))
    → (h : AnyHistory) → IsAnyHistory h → formed (text_of name, ss, rest) ≡ form_of h → P h
only_with_name name ss rest P each h is form =
    let parts = same_parts (text_of name) (text_of (name_of h)) ss (sessions_of h) rest (rest_of h) (form ∙ form_is h) in
    let named : name ≡ name_of h = same_name name (name_of h) parts.0 in
    let from : (r : RecordOf name) × (history_from name r ≡ h) =
    subst (λ (n : ObjectName). (r : RecordOf n) × (history_from n r ≡ h)) (sym named) (is_from h) in
    let back : h ≡ history_from name from.0 = sym from.1 in
    subst P from.1 (each from.0 (subst IsAnyHistory back is) (parts.1 ∙ ap sessions_of back) (parts.2 ∙ ap rest_of back))

-- the text with a name is that name
pub text_is : (text : List ℕ) (name : ObjectName) → name_at text ≡ Some name → text ≡ text_of name
text_is text name e =
    ⊎_elim (named names.Register text name) (λ more. ⊎_elim (named names.Counter text name) (λ more. ⊎_elim (named names.Set text name)
    (λ more. ⊎_elim (named names.Queue text name) (keyed_text_is text name) (by_word text (codes "queue") _ _ name more))
    (by_word text (codes "set") _ _ name more)) (by_word text (codes "counter") _ _ name more)) (by_word text (codes "register") _ _ name e)
  where
    named : (here : ObjectName) (text : List ℕ) (name : ObjectName) → (text ≡ text_of here) × (Some here ≡ Some name) → text ≡ text_of name
    named here text name p = p.0 ∙ ap text_of (same_Some here name p.1)

    keyed_text_is : (text : List ℕ) (name : ObjectName) → keyed_name_at text ≡ Some name → text ≡ text_of name
    keyed_text_is text name e =
        ⊎_elim (named names.Memory text name) (λ more. ⊎_elim (named names.Counters text name) (λ more. ⊎_elim (named names.Sets text name)
        (λ more. ⊎_elim (named names.Queues text name) (λ none. absurd cc) (by_word text (codes "queues") _ _ name more))
        (by_word text (codes "sets") _ _ name more)) (by_word text (codes "counters") _ _ name more)) (by_word text (codes "memory") _ _ name e)

-- the value with these parts, by the name of its object
pub form_with_name : (d : Data) (p : Parts) (name : ObjectName) → parts_of d ≡ Some p → name_at p.0 ≡ Some name → d ≡ formed (text_of name, p.1, p.2)
form_with_name d p name parts named = parts_formed d p parts ∙ ap (λ (text : List ℕ). formed (text, p.1, p.2)) (text_is p.0 name named)
