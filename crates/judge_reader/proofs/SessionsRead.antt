-- Reading the sessions, one after the other.
use Rattle.std.proofs.Common.{◌≡◌, ℕ, zero, suc, ◌+◌, ◌<◌, List, [], ◌∷◌, ◌++◌, length, map, Option, Some, None, refl, sym, ap, subst, ◌∙◌, arith}
use Rattle.std.specs.Prelude.{Ok, Err, slice_index_or}
use Rattle.std.proofs.lemmas.List.{append-nil, length_push, map_push}
use Rattle.json.specs.Json.{after_end_array}
use Rattle.json.specs.Token.{Token}
use Rattle.serde_json.specs.Data.{Data}
use Rattle.json_bounded.specs.Steps.Behind.{behind_items}
use Rattle.order_causal.specs.Steps.FlatRows.{cut, RisesTo}
use Rattle.order_causal.proofs.Flat.{cut-length, pushed-rises, pushed-rows}
use Rattle.json_histories.specs.Form.{ReadAs, session_at}
use Rattle.json_histories.specs.Json.{elements as elements_in}
use Rattle.json_histories.specs.Reading.{first_among}
use Rattle.json_histories.specs.declared.read_error.ReadError.{ReadError}
use Rattle.json_histories.proofs.FirstRefusal.{first_among_more, first_among_some}
use Rattle.judge_reader.specs.LongRefusals.{operation_at, operations_refusal, session_refusal, sessions_refusal}
use Rattle.judge_reader.specs.Steps.Reading.{AreOperations, AreSessions, AreSessionsOf, Entry, IsSessionOfMemory, IsSessionRead}
use Rattle.json_tokens.specs.Tokens.{IsList, IsRest}
use Rattle.json_tokens.proofs.Elements.{HasRead, read_none, read_one_more, read_all, rest_passed}
use Rattle.judge_reader.proofs.OperationsRead.{next_element, one_then_more}

empty_session : IsSessionOfMemory []
empty_session = record { fitting = λ i c r here. absurd cc; known_first = λ i j c d r lt here there. absurd cc }

-- every list is a session, and so is the empty one behind the last
abbrev AreAll : List (List Entry) → Type 0
AreAll ss = (s : ℕ) → IsSessionOfMemory (slice_index_or ss s [])

one_session_more : (ss : List (List Entry)) (es : List Entry) → AreAll ss → IsSessionOfMemory es → AreAll (ss ++ es ∷ [])
one_session_more [] es each is zero = is
one_session_more [] es each is (suc s) = empty_session
one_session_more (x ∷ ss) es each is zero = each 0
one_session_more (x ∷ ss) es each is (suc s) = one_session_more ss es (λ i. each (suc i)) is s

within : (ds : List Data) (d : Data) (more : List Data) → length ds < length (ds ++ d ∷ more)
within [] d more = omega arith
within (e ∷ ds) d more = let less = within ds d more in omega (arith, less)

-- ---- the sessions so far

-- these elements are read as these sessions, and none is refused, whatever stands after them
pub record AreReadTo (elements : List Data) (ss : List (List Entry)) : Type 0 where
  pub read : ReadAs operation_at elements ss
  pub each : (s : ℕ) → IsSessionOfMemory (slice_index_or ss s [])
  pub none : (more : List Data) → first_among (length elements) (session_refusal (elements ++ more)) ≡ None
  pub count : length ss ≡ length elements

none_read : AreReadTo [] []
none_read = record { read = refl; each = λ s. empty_session; none = λ more. refl; count = refl }

module _ (elements : List Data) (ss : List (List Entry)) (so_far : AreReadTo elements ss) (d : Data) where
  -- the refusal of the next session, whatever stands after it
  refusal_there : (refusal : Option ReadError) → operations_refusal (length ss) (elements_in d) ≡ refusal → (more : List Data) → session_refusal (elements ++ d ∷ more) (length elements) ≡ refusal
  refusal_there refusal is more = rw (next_element elements d more, ← so_far.count) is

  are_read-more : (es : List Entry) → AreOperations (length ss) (elements_in d) es → AreReadTo (elements ++ d ∷ []) (ss ++ es ∷ [])
  are_read-more es is =
      let here : session_at operation_at d ≡ Some (map (λ e. Some e) es) = is.read in
      record {
        read = map_push (session_at operation_at) elements d ∙ rw (here, so_far.read) (sym (map_push (λ (x : List Entry). Some (map (λ e. Some e) x)) ss es));
        each = one_session_more ss es so_far.each is.is_session;
        none = λ more. rw (one_then_more elements d more, length_push elements d)
            (first_among_more (length elements) (session_refusal (elements ++ d ∷ more)) (so_far.none (d ∷ more)) (refusal_there None is.none_refused more));
        count = length_push ss es ∙ ap (λ n. n + 1) so_far.count ∙ sym (length_push elements d);
      }

  are_read-refused : (error : ReadError) → operations_refusal (length ss) (elements_in d) ≡ Some error → (more : List Data) → sessions_refusal ((elements ++ d ∷ []) ++ more) ≡ Some error
  are_read-refused error is more =
      let ds = elements ++ d ∷ more in
      rw (one_then_more elements d more)
      (first_among_some (length ds) (length elements) (session_refusal ds) error (so_far.none (d ∷ more)) (refusal_there (Some error) is more) (within elements d more))

all_sessions : (ds : List Data) (ss : List (List Entry)) → AreReadTo ds ss → AreSessionsOf ds ss
all_sessions ds ss so_far = record { none_refused = rw (append-nil ds) at (so_far.none []); read = so_far.read; each = so_far.each }

-- ---- the loop over them

module _ (depth : ℕ) where
  pub record IsReadingSessions (old now : List Token) (ss : List (List Entry)) : Type 0 where
    pub elements : List Data
    pub so_far : HasRead depth old now elements
    pub are_read : AreReadTo elements ss

  pub sessions_begun : (ts : List Token) → IsReadingSessions ts ts []
  sessions_begun ts = record { elements = []; so_far = read_none depth ts; are_read = none_read }

  -- the sessions so far are one after the other in one list, each up to its end
  pub record IsReadingRows (old now : List Token) (entries : List Entry) (ends : List ℕ) : Type 0 where
    pub rises : RisesTo 0 ends (length entries)
    pub sessions : IsReadingSessions old now (cut entries 0 ends)

  pub rows_begun : (ts : List Token) → IsReadingRows ts ts [] []
  rows_begun ts = record { rises = refl; sessions = sessions_begun ts }

  module _ (old now : List Token) (entries : List Entry) (ends : List ℕ) (inv : IsReadingRows old now entries ends) where
    abbrev sessions_so_far : List (List Entry)
    sessions_so_far = cut entries 0 ends

    here : (n : ℕ) (after : List Entry) (refusal expected : Option ReadError) (r : List Token) → n ≡ length ends → refusal ≡ expected
        → IsList (λ ds. IsSessionRead n ds entries after refusal) depth now r → IsList (λ ds. IsSessionRead (length sessions_so_far) ds entries after expected) depth now r
    here n after refusal expected r count is one =
        let place : n ≡ length sessions_so_far = count ∙ sym (cut-length entries 0 ends) in
        subst (λ (m : ℕ). IsList (λ ds. IsSessionRead m ds entries after expected) depth now r) place
        (subst (λ (x : Option ReadError). IsList (λ ds. IsSessionRead n ds entries after x) depth now r) is one)

    module _ (r : List Token) (after : List Entry) (n : ℕ) (refusal : Option ReadError) (count : n ≡ length ends) (going : after_end_array now ≡ None)
        (found : IsList (λ ds. IsSessionRead n ds entries after refusal) depth now r) (less : length r < length now) where
      pub sessions_more : refusal ≡ None → (m : ℕ) (places : List ℕ) → m ≡ length after → places ≡ ends ++ m ∷ [] → IsReadingRows old r after places
      sessions_more is m places len pushed =
          let so_far = inv.sessions in
          let one = here n after refusal None r count is found in
          let es = one.2.0 in
          let more : IsReadingSessions old r (sessions_so_far ++ es ∷ []) = record {
            elements = so_far.elements ++ one.0 ∷ [];
            so_far = read_one_more depth old now so_far.elements so_far.so_far r one.0 going one.1 less;
            are_read = are_read-more so_far.elements sessions_so_far so_far.are_read one.0 es one.2.2;
          } in
          record {
            rises = pushed-rises entries es after ends places m inv.rises one.2.1 len pushed;
            sessions = subst (λ (x : List (List Entry)). IsReadingSessions old r x) (sym (pushed-rows entries es after ends places m inv.rises one.2.1 len pushed)) more;
          }

      pub sessions_refused : (error : ReadError) → refusal ≡ Some error → (q : List Token) → behind_items depth r ≡ Some q
          → IsRest (λ ds. AreSessions ds (Err error)) depth old q
      sessions_refused error is q passed =
          let so_far = inv.sessions in
          let one = here n after refusal (Some error) r count is found in
          rest_passed depth old r (so_far.elements ++ one.0 ∷ []) (read_one_more depth old now so_far.elements so_far.so_far r one.0 going one.1 less)
          (λ ds. AreSessions ds (Err error)) q passed (are_read-refused so_far.elements sessions_so_far so_far.are_read one.0 error one.2)

    pub sessions_over : (r : List Token) → after_end_array now ≡ Some r → IsRest (λ ds. AreSessions ds (Ok sessions_so_far)) depth old r
    sessions_over r end =
        let so_far = inv.sessions in
        read_all depth old now so_far.elements so_far.so_far (λ ds. AreSessions ds (Ok sessions_so_far)) r end (all_sessions so_far.elements sessions_so_far so_far.are_read)
