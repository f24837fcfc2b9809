-- Reading the operations of one session, one after the other.
use Rattle.std.proofs.Common.{◌≡◌, ℕ, zero, suc, ◌+◌, ◌-◌, ◌<◌, ◌≤◌, Bool, true, false, ◌||◌, List, [], ◌∷◌, ◌++◌, length, length-append, map, take, Some, None, refl, sym, ap, ◌∙◌, arith, append_assoc}
use Rattle.std.specs.Prelude.{slice_get}
use Rattle.std.proofs.lemmas.List.{append-nil, length_push, take_all}
use Rattle.std.proofs.lemmas.Option.{slice_get_within}
use Rattle.json.specs.Json.{after_end_array}
use Rattle.json.specs.Token.{Token}
use Rattle.serde_json.specs.Data.{Data}
use Rattle.json_bounded.specs.Steps.Behind.{behind_items}
use Rattle.model_history.specs.declared.op_id.OpId.{OpId}
use Rattle.order_memory.specs.Memory.{MemoryCall}
use Rattle.json_histories.specs.Laws.KeyedForm.{keyed_read}
use Rattle.json_histories.specs.Laws.RegisterForm as register_laws
use Rattle.json_histories.specs.Reading.{is_unknown_return, entry_refusal, operation_refusal}
use Rattle.json_histories.specs.declared.read_error.ReadError.{ReadError}
use Rattle.json_histories.specs.declared.read_error.ReadError.TheVariants.{ReturnAfterUnknown}
use Rattle.json_histories.proofs.FirstRefusal.{first_among_none}
use Rattle.json_histories.proofs.SessionReading.{IsReadUpTo, form_at, or_true, reads_nothing, reads_on, refused_here, unknown_among}
use Rattle.judge_reader.specs.LongRefusals.{operation_at, operations_refusal}
use Rattle.judge_reader.specs.Steps.Reading.{AreOperations, Entry, IsSessionOfMemory, IsSessionRead}
use Rattle.judge_reader.specs.Steps.Taking.{IsTaken, is_unknown, refusal_as}
use Rattle.judge_reader.specs.declared.taken.Taken.{Taken}
use Rattle.json_tokens.specs.Tokens.{IsRest, IsValue}
use Rattle.json_tokens.proofs.Elements.{HasRead, read_none, read_one_more, read_all, rest_passed}
use Rattle.judge_reader.proofs.OperationsTaken.{pushed_as_read, refused_as_read}

-- the element after the first ones
pub next_element : (ds : List Data) (d : Data) (more : List Data) → slice_get (ds ++ d ∷ more) (length ds) ≡ Some d
next_element [] d more = refl
next_element (e ∷ ds) d more = next_element ds d more

pub one_then_more : (ds : List Data) (d : Data) (more : List Data) → (ds ++ d ∷ []) ++ more ≡ ds ++ d ∷ more
one_then_more ds d more = append_assoc ds (d ∷ []) more

-- ---- the entries so far

-- these elements are read as these operations, whatever stands after them, and none is refused
abbrev pub AreRead : ℕ → List Data → List Entry → Bool → Type 0
AreRead s elements es unknown_seen = (more : List Data) → IsReadUpTo operation_at s (elements ++ more) es unknown_seen (length elements)

abbrev pub at_place : ℕ → ℕ → OpId
at_place s i = record { session = s; index = i }

module _ (s : ℕ) (elements : List Data) (es : List Entry) (seen : Bool) (so_far : AreRead s elements es seen) (d : Data) where
  pub are_read-more : (e : Entry) (after : Bool) → operation_at d ≡ Some e → entry_refusal (Some e) seen (at_place s (length elements)) ≡ None
      → after ≡ (seen || is_unknown_return (Some e)) → AreRead s (elements ++ d ∷ []) (es ++ e ∷ []) after
  are_read-more e after read fine after_is more =
      let on = reads_on operation_at s (elements ++ d ∷ more) es seen after (length elements) d e (so_far (d ∷ more)) (next_element elements d more) read fine after_is in
      rw (one_then_more elements d more, length_push elements d) on

  pub are_read-refused : (error : ReadError) → entry_refusal (operation_at d) seen (at_place s (length elements)) ≡ Some error
      → (more : List Data) → operations_refusal s (Some ((elements ++ d ∷ []) ++ more)) ≡ Some error
  are_read-refused error bad more =
      let ds = elements ++ d ∷ more in
      rw (one_then_more elements d more) (refused_here operation_at s (length ds) ds es seen (length elements) d error refl (so_far (d ∷ more)) (next_element elements d more) bad)

-- ---- all entries

-- an earlier operation whose return is not known is among those before
unknown_before : (ds : List Data) (es : List Entry) (i j : ℕ) (c : MemoryCall) → map operation_at ds ≡ map (λ e. Some e) es → slice_get es i ≡ Some (c, None) → i < j
    → unknown_among operation_at (take j ds) ≡ true
unknown_before [] [] i j c same here lt = absurd cc
unknown_before [] (e ∷ es) i j c same here lt = absurd cc
unknown_before (d ∷ ds) [] i j c same here lt = absurd cc
unknown_before (d ∷ ds) (e ∷ es) i zero c same here lt = absurd (omega arith)
unknown_before (d ∷ ds) (e ∷ es) zero (suc j) c same here lt =
    let first : operation_at d ≡ Some e = cc in
    rw (first ∙ here) refl
unknown_before (d ∷ ds) (e ∷ es) (suc i) (suc j) c same here lt =
    let later : unknown_among operation_at (take j ds) ≡ true = unknown_before ds es i j c (cc) here (omega arith) in
    rw later (or_true (is_unknown_return (operation_at d)))

module _ (s : ℕ) (ds : List Data) (es : List Entry) (same : map operation_at ds ≡ map (λ e. Some e) es) where
  session_of : operations_refusal s (Some ds) ≡ None → IsSessionOfMemory es
  session_of none = record {
    fitting = λ i c r here.
        let at = form_at operation_at ds es i (c, Some r) same here in
        (keyed_read register_laws.is_spelling at.0 c (Some r) at.2).1;
    known_first = λ i j c d r lt first second.
        let at = form_at operation_at ds es j (d, Some r) same second in
        let fine : operation_refusal operation_at s ds j ≡ None = first_among_none (length ds) j (operation_refusal operation_at s ds) none (slice_get_within ds j at.0 at.1) in
        let bad : operation_refusal operation_at s ds j ≡ Some (ReturnAfterUnknown (at_place s j)) = rw (at.1, at.2, unknown_before ds es i j c same first lt) refl in
        absurd cc;
  }

pub all_operations : (s : ℕ) (ds : List Data) (es : List Entry) (seen : Bool) → AreRead s ds es seen → AreOperations s (Some ds) es
all_operations s ds es seen read =
    let so_far : IsReadUpTo operation_at s ds es seen (length ds) = rw (append-nil ds) at (read []) in
    let same : map operation_at ds ≡ map (λ e. Some e) es = ap (map operation_at) (sym (take_all (length ds) ds (omega arith))) ∙ so_far.entries in
    record { none_refused = so_far.none; read = ap (λ x. Some x) same; is_session = session_of s ds es same so_far.none }

-- ---- the loop over them

one_longer : (before es entries after : List Entry) (e : Entry) → entries ≡ before ++ es → after ≡ entries ++ e ∷ [] → after ≡ before ++ (es ++ e ∷ [])
one_longer before es entries after e whole longer = longer ∙ ap (λ (xs : List Entry). xs ++ e ∷ []) whole ∙ append_assoc before es (e ∷ [])

-- the operations so far come after the entries before
module _ (depth s : ℕ) (before : List Entry) where
  pub record IsReadingSession (old now : List Token) (entries : List Entry) (seen : Bool) : Type 0 where
    pub elements : List Data
    pub operations : List Entry
    pub whole : entries ≡ before ++ operations
    pub so_far : HasRead depth old now elements
    pub are_read : AreRead s elements operations seen
    pub count : length operations ≡ length elements

  pub session_begun : (ts : List Token) → IsReadingSession ts ts before false
  session_begun ts = record {
    elements = [];
    operations = [];
    whole = sym (append-nil before);
    so_far = read_none depth ts;
    are_read = reads_nothing operation_at s;
    count = refl;
  }

  module _ (old now : List Token) (entries : List Entry) (seen : Bool) (inv : IsReadingSession old now entries seen) where
    parts : length entries ≡ length before + length inv.operations
    parts = ap (λ (xs : List Entry). length xs) inv.whole ∙ length-append before inv.operations

    -- the place of the next operation
    abbrev pub next_place : OpId
    next_place = at_place s (length entries - length before)

    place_is : next_place ≡ at_place s (length inv.elements)
    place_is = let sum = parts in let count = inv.count in let index : length entries - length before ≡ length inv.elements = omega arith in ap (at_place s) index

    module _ (r : List Token) (after : List Entry) (t : Taken) (going : after_end_array now ≡ None)
        (one : IsValue (λ d. IsTaken seen (operation_at d) entries after t) depth now r) (less : length r < length now) where
      read_so_far : HasRead depth old r (inv.elements ++ one.0 ∷ [])
      read_so_far = read_one_more depth old now inv.elements inv.so_far r one.0 going one.1 less

      pub session_more : refusal_as t next_place ≡ None → IsReadingSession old r after (is_unknown t)
      session_more none =
          let d = one.0 in
          let e = pushed_as_read seen (operation_at d) entries after t one.2 next_place none in
          let fine : entry_refusal (Some e.entry) seen (at_place s (length inv.elements)) ≡ None = ap (entry_refusal (Some e.entry) seen) (sym place_is) ∙ e.fine in
          record {
            elements = inv.elements ++ d ∷ [];
            operations = inv.operations ++ e.entry ∷ [];
            whole = one_longer before inv.operations entries after e.entry inv.whole e.behind;
            so_far = read_so_far;
            are_read = are_read-more s inv.elements inv.operations seen inv.are_read d e.entry (is_unknown t) e.read fine e.unknown;
            count = length_push inv.operations e.entry ∙ ap (λ n. n + 1) inv.count ∙ sym (length_push inv.elements d);
          }

      pub session_refused : (q : List Token) (left : List Entry) (error : ReadError) → refusal_as t next_place ≡ Some error
          → behind_items depth r ≡ Some q → IsRest (λ ds. IsSessionRead s (Some ds) before left (Some error)) depth old q
      session_refused q left error refused passed =
          let d = one.0 in
          let bad : entry_refusal (operation_at d) seen (at_place s (length inv.elements)) ≡ Some error =
          ap (entry_refusal (operation_at d) seen) (sym place_is) ∙ sym (refused_as_read seen (operation_at d) entries after t one.2 next_place) ∙ refused in
          rest_passed depth old r (inv.elements ++ d ∷ []) read_so_far (λ ds. IsSessionRead s (Some ds) before left (Some error)) q passed
          (are_read-refused s inv.elements inv.operations seen inv.are_read d error bad)

    pub session_over : (r : List Token) → after_end_array now ≡ Some r → IsRest (λ ds. IsSessionRead s (Some ds) before entries None) depth old r
    session_over r end =
        read_all depth old now inv.elements inv.so_far (λ ds. IsSessionRead s (Some ds) before entries None) r end
        (inv.operations, inv.whole, all_operations s inv.elements inv.operations seen inv.are_read)
