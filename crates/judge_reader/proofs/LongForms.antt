-- What reads as a long history is its form, and the form of a long history reads as that history and no other.
use Rattle.std.proofs.Common.{◌≡◌, ◌≢◌, ◌⊎◌, ℕ, zero, suc, ◌<◌, ◌^◌, Bool, true, false, ◌||◌, List, [], ◌∷◌, length, map, take, Option, Some, None, Result, Ok, Err, refl, sym, ap, subst, ◌∙◌, arith, inl, inr}
use Rattle.std.specs.Prelude.{IfOk, IfErr, if◌then◌else◌, slice_get, slice_index_or, option_map, option_and_then}
use Rattle.std.specs.Option.{option_or}
use Rattle.std.specs.Str.{IsUtf8}
use Rattle.std.proofs.lemmas.Bool.{cases_Bool}
use Rattle.std.proofs.lemmas.List.{length-map}
use Rattle.std.proofs.lemmas.Option.{same_Some}
use Rattle.serde_json.specs.Data.{Data}
use Rattle.json_bounded.specs.Text.{IsJson}
use Rattle.model_history.specs.declared.op_id.OpId.{OpId}
use Rattle.judge_memory.specs.LongHistories.{IsLongHistory}
use Rattle.order_memory.specs.Memory.{MemoryCall, MemoryHistory}
use Rattle.model_objects.specs.Register.{matches}
use Rattle.model_objects.specs.declared.register.RegisterRet.{RegisterRet}
use Rattle.json_histories.specs.AnyForm.{form_of}
use Rattle.json_histories.specs.Form.{AreCalls, EachCall, Fits, ReadAs, session_at, session_form}
use Rattle.json_histories.specs.Json.{elements}
use Rattle.json_histories.specs.Laws.Json.{elements-list, map_from}
use Rattle.json_histories.specs.Laws.KeyedForm.{keyed_again, keyed_is_call, keyed_read}
use Rattle.json_histories.specs.Laws.RegisterForm as register_laws
use Rattle.json_histories.specs.ObjectNames.{text_of}
use Rattle.json_histories.specs.Reading.{entry_refusal, first_among, is_unknown_return, operation_refusal, parts_of, start_refusal}
use Rattle.json_histories.specs.RegisterForm as register
use Rattle.json_histories.specs.Spelling.{entry_form, keyed_form, table_form}
use Rattle.json_histories.specs.declared.any_history.AnyHistory.TheVariants as histories
use Rattle.json_histories.specs.declared.object_name.ObjectName.TheVariants.{Memory as MemoryName}
use Rattle.json_histories.specs.declared.read_error.ReadError.{ReadError}
use Rattle.json_histories.specs.declared.read_error.ReadError.TheVariants as errors
use Rattle.json_histories.proofs.FirstRefusal.{all_none}
use Rattle.json_histories.proofs.HistoryForm.{calls_read, same_sessions, sessions_formed}
use Rattle.json_histories.proofs.PartsForm.{parts_again, parts_again_with_start, parts_formed}
use Rattle.json_histories.proofs.SessionReading.{form_at, unknown_among}
use Rattle.judge_reader.specs.LongRefusals.{IsRefusedLong, first_long_refusal, name_refusal, operation_at, operations_refusal, parts_refusal, session_refusal, sessions_refusal, start_of}
use Rattle.judge_reader.specs.Steps.Reading.{ArePartsOf, Entry, IsJsonOf, IsSessionOfMemory, IsWhole}
use Rattle.judge_reader.proofs.LongTables.{start_again, start_formed}

abbrev operation_form : MemoryCall → Option RegisterRet → Data
operation_form = keyed_form register.word_of register.arguments register.ret_form

abbrev session : List Entry → Data
session = session_form operation_form

abbrev IsKey : MemoryCall → Type 0
IsKey c = c.key < 2 ^ 32

-- ---- what was read

module _ (d : Data) (p : List (ℕ × ℕ) × List (List Entry)) (are : ArePartsOf (parts_of d) p) where
  pub parts_are_form : d ≡ form_of (histories.Memory p)
  parts_are_form =
      let whole = parts_formed d (text_of MemoryName, are.sessions, are.rest) are.parts in
      let sessions = sessions_formed operation_at operation_form (λ c. matches c.call) (keyed_read register_laws.is_spelling) are.sessions p.1 are.are_sessions.read in
      rw (← sessions, ← (start_formed are.rest p.0 are.is_start).form) whole

  pub parts_are_history : IsLongHistory p
  parts_are_history = record {
    start = (start_formed are.rest p.0 are.is_start).is_table;
    each = are.are_sessions.each;
    calls = calls_read operation_at IsKey (keyed_is_call register.call_at register.ret_at) are.sessions p.1 are.are_sessions.read;
  }

-- ---- the form of an operation, of a session and of all sessions reads as these

fits_known : (c : MemoryCall) (r : Option RegisterRet) → ((v : RegisterRet) → r ≡ Some v → matches c.call v ≡ true) → Fits (λ (x : MemoryCall). matches x.call) c r
fits_known c None fitting = tt
fits_known c (Some v) fitting = fitting v refl

operations_again : (es : List Entry) → ((i : ℕ) (c : MemoryCall) (r : RegisterRet) → slice_get es i ≡ Some (c, Some r) → matches c.call r ≡ true) → AreCalls IsKey es
    → map operation_at (map (λ (e : Entry). operation_form e.0 e.1) es) ≡ map (λ e. Some e) es
operations_again [] fitting keys = refl
operations_again (e ∷ es) fitting keys =
    let fits = fits_known e.0 e.1 (λ v known. fitting 0 e.0 v (ap (λ (r : Option RegisterRet). Some (e.0, r)) known)) in
    rw (keyed_again register_laws.is_spelling e.0 e.1 (keys 0 e.0 e.1 refl) fits, operations_again es (λ i. fitting (suc i)) (λ i. keys (suc i))) refl

sessions_again : (ss : List (List Entry)) → ((s : ℕ) → IsSessionOfMemory (slice_index_or ss s [])) → EachCall IsKey ss → ReadAs operation_at (map session ss) ss
sessions_again [] each keys = refl
sessions_again (es ∷ ss) each keys =
    let here : session_at operation_at (session es) ≡ Some (map (λ e. Some e) es) =
    ap (option_map (map operation_at)) (elements-list (map (λ (e : Entry). operation_form e.0 e.1) es)) ∙ ap (λ x. Some x) (operations_again es ((each 0).fitting) (keys 0)) in
    rw (here, sessions_again ss (λ s. each (suc s)) (λ s. keys (suc s))) refl

-- ---- and none of it is refused

entry_there : (es : List Entry) (i : ℕ) → i < length es → (e : Entry) × (slice_get es i ≡ Some e)
entry_there [] i lt = absurd (omega arith)
entry_there (e ∷ es) zero lt = (e, refl)
entry_there (e ∷ es) (suc i) lt = entry_there es i (omega arith)

either : (a b : Bool) → (a || b) ≡ true → (a ≡ true) ⊎ (b ≡ true)
either true b e = inl refl
either false b e = inr e

-- an operation whose return is not known, among the first so many
unknown_there : (ds : List Data) (es : List Entry) (i : ℕ) → map operation_at ds ≡ map (λ e. Some e) es → unknown_among operation_at (take i ds) ≡ true
    → (j : ℕ) × (c : MemoryCall) × (j < i) × (slice_get es j ≡ Some (c, None))
unknown_there [] es zero same unknown = absurd cc
unknown_there [] es (suc i) same unknown = absurd cc
unknown_there (d ∷ ds) [] i same unknown = absurd cc
unknown_there (d ∷ ds) (e ∷ es) zero same unknown = absurd cc
unknown_there (d ∷ ds) ((c, None) ∷ es) (suc i) same unknown = (0, c, omega arith, refl)
unknown_there (d ∷ ds) ((c, Some r) ∷ es) (suc i) same unknown =
    let here : operation_at d ≡ Some (c, Some r) = cc in
    let rest : map operation_at ds ≡ map (λ e. Some e) es = cc in
    elim (either (is_unknown_return (operation_at d)) (unknown_among operation_at (take i ds)) unknown) [
      | inl first ↦ let known : is_unknown_return (operation_at d) ≡ false = rw here refl in absurd cc
      | inr later ↦ let p = unknown_there ds es i rest later in (suc p.0, p.1, omega arith, p.3)
    ]

not_refused : (e : Entry) (seen : Bool) (op : OpId) → ((c : MemoryCall) (r : RegisterRet) → e ≡ (c, Some r) → seen ≡ false) → entry_refusal (Some e) seen op ≡ None
not_refused (c, None) seen op known_first = refl
not_refused (c, Some r) seen op known_first = rw (known_first c r refl) refl

module _ (s : ℕ) (ds : List Data) (es : List Entry) (same : map operation_at ds ≡ map (λ e. Some e) es) (is : IsSessionOfMemory es) where
  operation_fine : (i : ℕ) → i < length ds → operation_refusal operation_at s ds i ≡ None
  operation_fine i lt =
      let count = simp length-map at (ap length same) in
      let e = entry_there es i (omega arith) in
      let d = form_at operation_at ds es i e.0 same e.1 in
      let seen = unknown_among operation_at (take i ds) in
      rw (d.1, d.2) (not_refused e.0 seen (record { session = s; index = i }) (λ c r known. elim (cases_Bool seen) [
        | inl found ↦ let p = unknown_there ds es i same found in absurd (is.known_first p.0 i p.1 c r p.2 p.3 (e.1 ∙ ap (λ (x : Entry). Some x) known))
        | inr none ↦ none
      ]))

session_fine : (s : ℕ) (d : Data) (es : List Entry) → session_at operation_at d ≡ Some (map (λ e. Some e) es) → IsSessionOfMemory es → operations_refusal s (elements d) ≡ None
session_fine s d es read is =
    let ds = map_from (map operation_at) (elements d) (map (λ e. Some e) es) read in
    rw ds.1 (all_none (length ds.0) (operation_refusal operation_at s ds.0) (operation_fine s ds.0 es ds.2 is))

session_there : (ds : List Data) (ss : List (List Entry)) (s : ℕ) → ReadAs operation_at ds ss → s < length ds
    → (d : Data) × (slice_get ds s ≡ Some d) × (session_at operation_at d ≡ Some (map (λ e. Some e) (slice_index_or ss s [])))
session_there [] ss s read lt = absurd (omega arith)
session_there (d ∷ ds) [] s read lt = absurd cc
session_there (d ∷ ds) (es ∷ ss) zero read lt = (d, refl, cc)
session_there (d ∷ ds) (es ∷ ss) (suc s) read lt = session_there ds ss s (cc) (omega arith)

sessions_fine : (ds : List Data) (ss : List (List Entry)) → ReadAs operation_at ds ss → ((s : ℕ) → IsSessionOfMemory (slice_index_or ss s [])) → sessions_refusal ds ≡ None
sessions_fine ds ss read each =
    all_none (length ds) (session_refusal ds) (λ s lt.
    let p = session_there ds ss s read lt in rw p.1 (session_fine s p.0 (slice_index_or ss s []) p.2 (each s)))

-- ---- the form of a history

parts_of_form : (h : MemoryHistory) → parts_of (form_of (histories.Memory h)) ≡ Some (text_of MemoryName, map session h.1, table_form register.start_form h.0)
parts_of_form ([], ss) = parts_again (text_of MemoryName) (map session ss)
parts_of_form (e ∷ es, ss) = parts_again_with_start (text_of MemoryName) (map session ss) (map (entry_form register.start_form) (e ∷ es))

module _ (h : MemoryHistory) (is : IsLongHistory h) where
  read_again : ReadAs operation_at (map session h.1) h.1
  read_again = sessions_again h.1 is.each is.calls

  pub form_is_fine : first_long_refusal (form_of (histories.Memory h)) ≡ None
  form_is_fine = rw (parts_of_form h) (rw (sessions_fine (map session h.1) h.1 read_again is.each, start_again h.0 is.start) refl)

  same_history : (p : List (ℕ × ℕ) × List (List Entry)) → ArePartsOf (parts_of (form_of (histories.Memory h))) p → p ≡ h
  same_history p are =
      let parts : (text_of MemoryName, are.sessions, are.rest) ≡ (text_of MemoryName, map session h.1, table_form register.start_form h.0) =
      same_Some _ _ (sym are.parts ∙ parts_of_form h) in
      let sessions : are.sessions ≡ map session h.1 = ap (λ x. x.1) parts in
      let rest : are.rest ≡ table_form register.start_form h.0 = ap (λ x. x.2) parts in
      let start : p.0 ≡ h.0 = same_Some p.0 h.0 (sym are.is_start ∙ ap start_of rest ∙ start_again h.0 is.start) in
      rw (start, same_sessions operation_at p.1 h.1 are.sessions are.are_sessions.read (rw sessions read_again)) refl

  own_parts : ArePartsOf (parts_of (form_of (histories.Memory h))) h
  own_parts = record {
    sessions = map session h.1;
    rest = table_form register.start_form h.0;
    parts = parts_of_form h;
    are_sessions = record {
      none_refused = sessions_fine (map session h.1) h.1 read_again is.each;
      read = read_again;
      each = is.each;
    };
    is_start = start_again h.0 is.start;
  }

-- a form is that of one long history
pub forms_are_distinct : (g h : MemoryHistory) → IsLongHistory g → IsLongHistory h
    → form_of (histories.Memory g) ≡ form_of (histories.Memory h) → g ≡ h
forms_are_distinct g h is_g is_h same =
    same_history h is_h g (subst (λ (d : Data). ArePartsOf (parts_of d) g) same (own_parts g is_g))

-- ---- the refusal of a text

or_not : (a b : Option ReadError) → a ≢ Some errors.NotJson → b ≢ Some errors.NotJson → option_or a b ≢ Some errors.NotJson
or_not None b first second = second
or_not (Some e) b first second = first

among_not : (n : ℕ) (f : ℕ → Option ReadError) → ((i : ℕ) → f i ≢ Some errors.NotJson) → first_among n f ≢ Some errors.NotJson
among_not zero f none is = absurd cc
among_not (suc n) f none is = or_not (first_among n f) (f n) (among_not n f none) (none n) is

entry_not : (e : Option Entry) (seen : Bool) (op : OpId) → entry_refusal e seen op ≢ Some errors.NotJson
entry_not None seen op is = absurd cc
entry_not (Some (c, None)) seen op is = absurd cc
entry_not (Some (c, Some r)) true op is = absurd cc
entry_not (Some (c, Some r)) false op is = absurd cc

session_not : (s : ℕ) (ds : Option (List Data)) → operations_refusal s ds ≢ Some errors.NotJson
session_not s None is = absurd cc
session_not s (Some ds) is = among_not (length ds) (operation_refusal operation_at s ds) (λ i. entry_not _ _ _) is

name_not : (b : Bool) → (if b then None else Some errors.UnknownObject) ≢ Some errors.NotJson
name_not true is = absurd cc
name_not false is = absurd cc

start_not : (o : Option (List (ℕ × ℕ))) → start_refusal o ≢ Some errors.NotJson
start_not None is = absurd cc
start_not (Some start) is = absurd cc

-- a value is JSON
pub value_not : (found : Option (List ℕ × List Data × List Data)) → parts_refusal found ≢ Some errors.NotJson
value_not None is = absurd cc
value_not (Some p) is =
    or_not (name_refusal p.0) (option_or (sessions_refusal p.1) (start_refusal (start_of p.2))) (name_not _)
    (or_not (sessions_refusal p.1) (start_refusal (start_of p.2)) (among_not (length p.1) (session_refusal p.1) (λ s. session_not s (option_and_then elements (slice_get p.1 s)))) (start_not _)) is

module _ (text : List ℕ) where
  refused_for : (d : Data) (e : ReadError) → IsJson text d → first_long_refusal d ≡ Some e → IsRefusedLong text e
  refused_for d errors.NotJson json is = absurd (value_not (parts_of d) is)
  refused_for d errors.BadShape json is = (d, json, is)
  refused_for d errors.UnknownObject json is = (d, json, is)
  refused_for d (errors.BadOp op) json is = (d, json, is)
  refused_for d (errors.ReturnAfterUnknown op) json is = (d, json, is)
  refused_for d errors.TooManySessions json is = (d, json, is)
  refused_for d errors.TooManyOps json is = (d, json, is)
  refused_for d errors.Memory json is = tt
  refused_for d errors.BadInitial json is = (d, json, is)

  module _ (r : Result (List (ℕ × ℕ) × List (List Entry)) ReadError) (utf8 : IsUtf8 text) (whole : IsWhole text r) where
    pub json_if_read : IfOk r (IsJsonOf text)
    json_if_read = of_result r whole
      where
        of_result : (x : Result (List (ℕ × ℕ) × List (List Entry)) ReadError) → IsWhole text x → IfOk x (IsJsonOf text)
        of_result (Ok p) is = (is.0, (utf8, is.1), is.2)
        of_result (Err e) is = tt

    pub refused_if_not : IfErr r (IsRefusedLong text)
    refused_if_not = of_result r whole
      where
        of_result : (x : Result (List (ℕ × ℕ) × List (List Entry)) ReadError) → IsWhole text x → IfErr x (IsRefusedLong text)
        of_result (Ok p) is = tt
        of_result (Err e) is = refused_for is.0 e (utf8, is.1) is.2

  pub json_form : (p h : MemoryHistory) → IsJsonOf text p → h ≡ p → IsJson text (form_of (histories.Memory h))
  json_form p h of same = rw same (subst (IsJson text) (parts_are_form of.0 p of.2) of.1)

  module _ (h : MemoryHistory) (is : IsLongHistory h) (json : IsJson text (form_of (histories.Memory h))) where
    same_value : (d : Data) → IsJson text d → d ≡ form_of (histories.Memory h)
    same_value d other = same_Some d (form_of (histories.Memory h)) (sym other.1 ∙ json.1)

    pub only_history : (p : MemoryHistory) → IsJsonOf text p → p ≡ h
    only_history p of =
        same_history h is p (subst (λ (d : Data). ArePartsOf (parts_of d) p) (same_value of.0 of.1) of.2)

    never : {A : Type 0} (e : ReadError) → (d : Data) × IsJson text d × (first_long_refusal d ≡ Some e) → A
    never e refused =
        let bad : None ≡ Some e = sym (form_is_fine h is) ∙ ap first_long_refusal (sym (same_value refused.0 refused.1)) ∙ refused.2 in
        absurd cc

    pub only_memory : (e : ReadError) → IsRefusedLong text e → e ≡ errors.Memory
    only_memory errors.NotJson refused = absurd (refused (form_of (histories.Memory h)) json)
    only_memory errors.BadShape refused = never errors.BadShape refused
    only_memory errors.UnknownObject refused = never errors.UnknownObject refused
    only_memory (errors.BadOp op) refused = never (errors.BadOp op) refused
    only_memory (errors.ReturnAfterUnknown op) refused = never (errors.ReturnAfterUnknown op) refused
    only_memory errors.TooManySessions refused = never errors.TooManySessions refused
    only_memory errors.TooManyOps refused = never errors.TooManyOps refused
    only_memory errors.Memory refused = refl
    only_memory errors.BadInitial refused = never errors.BadInitial refused
