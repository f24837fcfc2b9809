-- A value that is cut at the places of a history has the same first refusal as the whole of it.
use Rattle.std.proofs.Common.{◌≡◌, ℕ, zero, suc, ◌+◌, ◌<◌, ◌≤◌, Bool, true, false, ◌||◌, List, [], ◌∷◌, length, map, take, Option, Some, None, refl, sym, ap, ap₂, subst, ◌∙◌, arith, inl, inr}
use Rattle.std.specs.Prelude.{◌≢◌, nat_lt, slice_get, option_map, option_and_then, is_some, if◌then◌else◌}
use Rattle.std.specs.List.{list_any}
use Rattle.std.specs.Option.{option_or}
use Rattle.std.proofs.lemmas.Bool.{cases_lt, lt-ltb, le-ltb}
use Rattle.std.proofs.lemmas.List.{length-map, length-take-le, take_all}
use Rattle.std.proofs.lemmas.Option.{slice_get-map}
use Rattle.serde_json.specs.Data.{Data, null, boolean, number, string, array, object, Items, no_items, item}
use Rattle.serde_json.specs.Find.{as_str}
use Rattle.json_bounded.specs.Cut.{cut}
use Rattle.json_bounded.proofs.CutLaws.{unseen}
use Rattle.json_bounded.proofs.CutLists.{cut_list, first}
use Rattle.model_objects.specs.declared.keyed.KeyedCall.{KeyedCall}
use Rattle.json_histories.specs.declared.history_place.HistoryPlace.{HistoryPlace}
use Rattle.json_histories.specs.declared.history_place.HistoryPlace.TheVariants.{Whole, Sessions, Session, Operation, Start, Entry, Scalar}
use Rattle.json_histories.specs.declared.object_name.ObjectName.{ObjectName}
use Rattle.json_histories.specs.declared.object_name.ObjectName.TheVariants as names
use Rattle.json_histories.specs.declared.read_error.ReadError.{ReadError}
use Rattle.json_histories.specs.declared.read_error.ReadError.TheVariants.{TooManyOps, TooManySessions}
use Rattle.json_histories.specs.AnyForm.{first_refusal, parts_refusal, refusal_by_name, refusal_of_object}
use Rattle.json_histories.specs.Laws.Call.{no_start_read}
use Rattle.json_histories.specs.CounterForm as counter
use Rattle.json_histories.specs.Laws.CounterForm as counter_laws
use Rattle.json_histories.specs.Json.{list, listed, elements}
use Rattle.json_histories.specs.Laws.KeyedForm.{keyed_read}
use Rattle.json_histories.specs.ObjectNames.{name_at}
use Rattle.json_histories.specs.Places.{inside_of, limit_of}
use Rattle.json_histories.specs.Laws.PlainForm.{plain_read}
use Rattle.json_histories.specs.QueueForm as queue
use Rattle.json_histories.specs.Laws.QueueForm as queue_laws
use Rattle.json_histories.specs.Reading.{first_among, is_unknown_return, entry_refusal, operation_refusal, operations_refusal, session_refusal, sessions_refusal, start_refusal, named_parts, parts_of, named_refusal}
use Rattle.json_histories.specs.RegisterForm as register
use Rattle.json_histories.specs.Laws.RegisterForm as register_laws
use Rattle.json_histories.specs.SetForm as set
use Rattle.json_histories.specs.Laws.SetForm as set_laws
use Rattle.json_histories.specs.Spelled.{IsSpelling}
use Rattle.json_histories.specs.Spelling.{plain_form, plain_at, plain_start_at, keyed_form, keyed_at, entry_form, table_form, table_at, no_start_form, no_start_at}
use Rattle.json_histories.specs.Laws.TableForm.{table_read}
use Rattle.json_histories.proofs.JsonLists.{elements-list, items_of-listed}
use Rattle.json_histories.proofs.KeptForms.{IsWholeAt, plain_kept, keyed_kept, entries_kept, register_argument, register_return, counter_return, set_argument, set_return, queue_argument, queue_return}
use Rattle.json_histories.proofs.PartsForm.{Parts}

abbrev cut_at : HistoryPlace → Data → Data
cut_at = cut limit_of inside_of

-- ---- the elements of a list that is cut

elements_cut : (place element : HistoryPlace) → ((i : ℕ) → inside_of place i ≡ element) → (d : Data)
    → elements (cut_at place d) ≡ option_map (λ (ds : List Data). map (cut_at element) (first (limit_of place) ds)) (elements d)
elements_cut place element one_place null = refl
elements_cut place element one_place (boolean b) = refl
elements_cut place element one_place (number n) = refl
elements_cut place element one_place (string s) = refl
elements_cut place element one_place (array ds) =
    ap (λ (es : Items). elements (cut_at place (array es))) (sym (items_of-listed ds))
    ∙ ap elements (cut_list limit_of inside_of place element one_place (listed ds))
    ∙ elements-list (map (cut_at element) (first (limit_of place) (listed ds)))
elements_cut place element one_place (object ms) = refl

-- ---- too many, or the first refusal of one

first_among_same : (n : ℕ) (f g : ℕ → Option ReadError) → ((i : ℕ) → f i ≡ g i) → first_among n f ≡ first_among n g
first_among_same zero f g same = refl
first_among_same (suc n) f g same = ap₂ option_or (first_among_same n f g same) (same n)

module _ (cut_one : Data → Data) (most : ℕ) (too_many : ReadError) (refusal_at : List Data → ℕ → Option ReadError) where
  abbrev counted_refusal : List Data → Option ReadError
  counted_refusal ds = if nat_lt most (length ds) then Some too_many else first_among (length ds) (refusal_at ds)

  module _ (same : (ds : List Data) (i : ℕ) → refusal_at (map cut_one ds) i ≡ refusal_at ds i) where
    few_same : (ds : List Data) → length ds ≤ most → counted_refusal (map cut_one (take (most + 1) ds)) ≡ counted_refusal ds
    few_same ds few =
        let all : take (most + 1) ds ≡ ds = take_all (most + 1) ds (omega arith) in
        let count : length (map cut_one ds) ≡ length ds = length-map ds cut_one in
        rw (all, count, le-ltb most (length ds) few) (first_among_same (length ds) (refusal_at (map cut_one ds)) (refusal_at ds) (same ds))

    many_same : (ds : List Data) → most < length ds → counted_refusal (map cut_one (take (most + 1) ds)) ≡ counted_refusal ds
    many_same ds many =
        let count : length (map cut_one (take (most + 1) ds)) ≡ most + 1 = length-map (take (most + 1) ds) cut_one ∙ length-take-le (most + 1) ds (omega arith) in
        let over : nat_lt most (length (map cut_one (take (most + 1) ds))) ≡ true = lt-ltb most (length (map cut_one (take (most + 1) ds))) (omega (arith, count)) in
        rw (over, lt-ltb most (length ds) many) refl

    counted_same : (ds : List Data) → counted_refusal (map cut_one (take (most + 1) ds)) ≡ counted_refusal ds
    counted_same ds = elim (cases_lt most (length ds)) [ inl many ↦ many_same ds many | inr few ↦ few_same ds few ]

-- ---- operations, sessions and starts

at_place : {A : Type 0} (f : Data → Option A) (cut_one : Data → Data) → ((d : Data) → f (cut_one d) ≡ f d) → (o : Option Data) → option_and_then f (option_map cut_one o) ≡ option_and_then f o
at_place f cut_one same None = refl
at_place f cut_one same (Some d) = same d

module _ {C R : Type 0} (operation_at : Data → Option (C × Option R)) (same : (d : Data) → operation_at (cut_at Operation d) ≡ operation_at d) where
  unknown_same : (i : ℕ) (ds : List Data)
      → list_any (λ d. is_unknown_return (operation_at d)) (take i (map (cut_at Operation) ds)) ≡ list_any (λ d. is_unknown_return (operation_at d)) (take i ds)
  unknown_same zero ds = refl
  unknown_same (suc i) [] = refl
  unknown_same (suc i) (d ∷ ds) = ap₂ (λ (a b : Bool). a || b) (ap is_unknown_return (same d)) (unknown_same i ds)

  operation_same : (s : ℕ) (ds : List Data) (i : ℕ) → operation_refusal operation_at s (map (cut_at Operation) ds) i ≡ operation_refusal operation_at s ds i
  operation_same s ds i =
      ap₂ (λ (o : Option (C × Option R)) (unknown : Bool). entry_refusal o unknown (record { session = s; index = i }))
      (ap (option_and_then operation_at) (slice_get-map (cut_at Operation) ds i) ∙ at_place operation_at (cut_at Operation) same (slice_get ds i))
      (unknown_same i ds)

  operations_same : (s : ℕ) (o : Option (List Data))
      → operations_refusal operation_at s (option_map (λ (ds : List Data). map (cut_at Operation) (take 257 ds)) o) ≡ operations_refusal operation_at s o
  operations_same s None = refl
  operations_same s (Some ds) = counted_same (cut_at Operation) 256 TooManyOps (operation_refusal operation_at s) (operation_same s) ds

  session_same : (ds : List Data) (s : ℕ) → session_refusal operation_at (map (cut_at Session) ds) s ≡ session_refusal operation_at ds s
  session_same ds s = ap (λ (o : Option Data). operations_refusal operation_at s (option_and_then elements o)) (slice_get-map (cut_at Session) ds s) ∙ at_session (slice_get ds s)
    where
      at_session : (o : Option Data) → operations_refusal operation_at s (option_and_then elements (option_map (cut_at Session) o)) ≡ operations_refusal operation_at s (option_and_then elements o)
      at_session None = refl
      at_session (Some d) = ap (operations_refusal operation_at s) (elements_cut Session Operation (λ i. refl) d) ∙ operations_same s (elements d)

  sessions_same : (ds : List Data) → sessions_refusal operation_at (map (cut_at Session) (take 17 ds)) ≡ sessions_refusal operation_at ds
  sessions_same ds = counted_same (cut_at Session) 16 TooManySessions (session_refusal operation_at) session_same ds

  -- the sessions of an object, and its start
  named_same : {S : Type 0} (start_at : List Data → Option S) → ((rest : List Data) → start_at (map (cut_at Start) rest) ≡ start_at rest)
      → (ss rest : List Data) → named_refusal operation_at start_at (map (cut_at Session) (take 17 ss)) (map (cut_at Start) rest) ≡ named_refusal operation_at start_at ss rest
  named_same start_at starts ss rest = ap₂ option_or (sessions_same ss) (ap start_refusal (starts rest))

plain_start_same : {S : Type 0} (plain : S) (rest : List Data) → plain_start_at plain (map (cut_at Start) rest) ≡ plain_start_at plain rest
plain_start_same plain [] = refl
plain_start_same plain (d ∷ ds) = refl

module _ {S : Type 0} (plain : S) (start_form : S → Data) (start_at : Data → Option S)
    (start_read : (d : Data) (s : S) → start_at d ≡ Some s → (d ≡ start_form s) × Unit {0} × (s ≢ plain)) (start_is_scalar : (s : S) → IsWholeAt Scalar (start_form s)) where
  table_whole : (d : Data) (es : List (ℕ × S)) → d ∷ [] ≡ table_form start_form es → length es ≤ 4096 → IsWholeAt Start d
  table_whole d [] form short = absurd cc
  table_whole d (e ∷ es) form short =
      let is : list (map (entry_form start_form) (e ∷ es)) ≡ d = cc in
      subst (IsWholeAt Start) is (entries_kept start_form start_is_scalar (e ∷ es) short)

  table_same : (rest : List Data) → table_at start_at (map (cut_at Start) rest) ≡ table_at start_at rest
  table_same [] = refl
  table_same (d ∷ []) =
      unseen limit_of inside_of Start (λ t. table_at start_at (t ∷ []))
      (λ t es read. let is = table_read plain (λ _. Unit {0}) start_form start_at start_read (t ∷ []) es read in table_whole t es is.0 is.1.short) d
  table_same (d ∷ e ∷ ds) = refl

-- ---- the objects

module _ {C R : Type 0} (word_of : C → List ℕ) (arguments : C → List Data) (ret_form : R → List Data)
    (call_at : List ℕ → List Data → Option (C × List Data)) (ret_at : C → List Data → Option R) (fits : C → R → Bool) (spelling : IsSpelling word_of arguments ret_form call_at ret_at fits) where
  plain_same : ((c : C) (r : Option R) → IsWholeAt Operation (plain_form word_of arguments ret_form c r)) → (d : Data) → plain_at call_at ret_at (cut_at Operation d) ≡ plain_at call_at ret_at d
  plain_same kept =
      unseen limit_of inside_of Operation (plain_at call_at ret_at)
      (λ d x read. subst (IsWholeAt Operation) (sym ((plain_read spelling d x.0 x.1 read).0)) (kept x.0 x.1))

  keyed_same : ((c : KeyedCall C) (r : Option R) → IsWholeAt Operation (keyed_form word_of arguments ret_form c r)) → (d : Data) → keyed_at call_at ret_at (cut_at Operation d) ≡ keyed_at call_at ret_at d
  keyed_same kept =
      unseen limit_of inside_of Operation (keyed_at call_at ret_at)
      (λ d x read. subst (IsWholeAt Operation) (sym ((keyed_read spelling d x.0 x.1 read).0)) (kept x.0 x.1))

object_same : (name : ObjectName) (ss rest : List Data) → refusal_of_object name (map (cut_at Session) (take 17 ss)) (map (cut_at Start) rest) ≡ refusal_of_object name ss rest
object_same names.Register =
    named_same (plain_at register.call_at register.ret_at)
    (plain_same register.word_of register.arguments register.ret_form register.call_at register.ret_at _ register_laws.is_spelling (plain_kept register.word_of register.arguments register.ret_form register_argument register_return))
    (plain_start_at 0) (plain_start_same 0)
object_same names.Counter =
    named_same (plain_at counter.call_at counter.ret_at)
    (plain_same counter.word_of counter.arguments counter.ret_form counter.call_at counter.ret_at _ counter_laws.is_spelling (plain_kept counter.word_of counter.arguments counter.ret_form (λ c. tt) counter_return))
    (plain_start_at tt) (plain_start_same tt)
object_same names.Set =
    named_same (plain_at set.call_at set.ret_at)
    (plain_same set.word_of set.arguments set.ret_form set.call_at set.ret_at _ set_laws.is_spelling (plain_kept set.word_of set.arguments set.ret_form set_argument set_return))
    (plain_start_at tt) (plain_start_same tt)
object_same names.Queue =
    named_same (plain_at queue.call_at queue.ret_at)
    (plain_same queue.word_of queue.arguments queue.ret_form queue.call_at queue.ret_at _ queue_laws.is_spelling (plain_kept queue.word_of queue.arguments queue.ret_form queue_argument queue_return))
    (plain_start_at tt) (plain_start_same tt)
object_same names.Memory =
    named_same (keyed_at register.call_at register.ret_at)
    (keyed_same register.word_of register.arguments register.ret_form register.call_at register.ret_at _ register_laws.is_spelling (keyed_kept register.word_of register.arguments register.ret_form register_argument register_return))
    (table_at register.start_at) (table_same 0 register.start_form register.start_at register_laws.start_read (λ s. tt))
object_same names.Counters =
    named_same (keyed_at counter.call_at counter.ret_at)
    (keyed_same counter.word_of counter.arguments counter.ret_form counter.call_at counter.ret_at _ counter_laws.is_spelling (keyed_kept counter.word_of counter.arguments counter.ret_form (λ c. tt) counter_return))
    (table_at no_start_at) (table_same tt no_start_form no_start_at no_start_read (λ s. tt))
object_same names.Sets =
    named_same (keyed_at set.call_at set.ret_at)
    (keyed_same set.word_of set.arguments set.ret_form set.call_at set.ret_at _ set_laws.is_spelling (keyed_kept set.word_of set.arguments set.ret_form set_argument set_return))
    (table_at no_start_at) (table_same tt no_start_form no_start_at no_start_read (λ s. tt))
object_same names.Queues =
    named_same (keyed_at queue.call_at queue.ret_at)
    (keyed_same queue.word_of queue.arguments queue.ret_form queue.call_at queue.ret_at _ queue_laws.is_spelling (keyed_kept queue.word_of queue.arguments queue.ret_form queue_argument queue_return))
    (table_at no_start_at) (table_same tt no_start_form no_start_at no_start_read (λ s. tt))

-- ---- the parts

abbrev cut_parts : Parts → Parts
cut_parts p = (p.0, map (cut_at Session) (take 17 p.1), map (cut_at Start) p.2)

text_same : (d : Data) → as_str (cut_at Scalar d) ≡ as_str d
text_same null = refl
text_same (boolean b) = refl
text_same (number n) = refl
text_same (string s) = refl
text_same (array ds) = refl
text_same (object ms) = refl

both_cut : (rest : List Data) (name : Option (List ℕ)) (sessions : Option (List Data))
    → option_and_then (λ (n : List ℕ). option_map (λ (ss : List Data). (n, ss, map (cut_at Start) rest)) (option_map (λ (ds : List Data). map (cut_at Session) (take 17 ds)) sessions)) name
    ≡ option_map cut_parts (option_and_then (λ (n : List ℕ). option_map (λ (ss : List Data). (n, ss, rest)) sessions) name)
both_cut rest None sessions = refl
both_cut rest (Some n) None = refl
both_cut rest (Some n) (Some ss) = refl

named_cut : (n ss : Data) (rest : List Data) → named_parts (cut_at Scalar n) (cut_at Sessions ss) (map (cut_at Start) rest) ≡ option_map cut_parts (named_parts n ss rest)
named_cut n ss rest =
    ap₂ (λ (name : Option (List ℕ)) (sessions : Option (List Data)). option_and_then (λ (t : List ℕ). option_map (λ (ds : List Data). (t, ds, map (cut_at Start) rest)) sessions) name)
    (text_same n) (elements_cut Sessions Session (λ i. refl) ss)
    ∙ both_cut rest (as_str n) (elements ss)

some_same : {A B : Type 0} (f : A → B) (o : Option A) → is_some (option_map f o) ≡ is_some o
some_same f None = refl
some_same f (Some a) = refl

start_is_list : (t : Data) → is_some (elements (cut_at Start t)) ≡ is_some (elements t)
start_is_list t = ap is_some (elements_cut Start Entry (λ i. refl) t) ∙ some_same (λ (ds : List Data). map (cut_at Entry) (take 4097 ds)) (elements t)

if_so : (b : Bool) (o : Option Parts) → (if b then option_map cut_parts o else None) ≡ option_map cut_parts (if b then o else None)
if_so true o = refl
if_so false o = refl

parts_cut : (d : Data) → parts_of (cut_at Whole d) ≡ option_map cut_parts (parts_of d)
parts_cut null = refl
parts_cut (boolean b) = refl
parts_cut (number n) = refl
parts_cut (string s) = refl
parts_cut (array no_items) = refl
parts_cut (array (item n no_items)) = refl
parts_cut (array (item n (item ss no_items))) = named_cut n ss []
parts_cut (array (item n (item ss (item t no_items)))) =
    ap₂ (λ (b : Bool) (o : Option Parts). if b then o else None) (start_is_list t) (named_cut n ss (t ∷ [])) ∙ if_so (is_some (elements t)) (named_parts n ss (t ∷ []))
parts_cut (array (item n (item ss (item t (item d ds))))) = refl
parts_cut (object ms) = refl

by_name_same : (name : Option ObjectName) (ss rest : List Data) → refusal_by_name name (map (cut_at Session) (take 17 ss)) (map (cut_at Start) rest) ≡ refusal_by_name name ss rest
by_name_same None ss rest = refl
by_name_same (Some name) ss rest = object_same name ss rest

parts_same : (o : Option Parts) → parts_refusal (option_map cut_parts o) ≡ parts_refusal o
parts_same None = refl
parts_same (Some p) = by_name_same (name_at p.0) p.1 p.2

pub same_refusal : (d : Data) → first_refusal (cut_at Whole d) ≡ first_refusal d
same_refusal d = ap parts_refusal (parts_cut d) ∙ parts_same (parts_of d)
