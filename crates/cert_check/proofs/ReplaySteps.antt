-- Replays over a list of session numbers: one call more, and what it says of the known returns.
use Rattle.std.proofs.Common.{◌≡◌, ℕ, ◌+◌, ◌≤◌, false, List, [], ◌∷◌, ◌++◌, length, take, get_or, set, sym, ap, ◌∙◌, subst, arith, take-take, take_all}
use Rattle.std.specs.Prelude.{Option, Some, IsTrue, is_some, slice_get, option_map}
use Rattle.std.specs.List.{filter_map, cons_option}
use Rattle.std.proofs.lemmas.List.Elements.{filter_map-append}
use Rattle.std.proofs.lemmas.Bool.{true≢false}
use Rattle.std.proofs.lemmas.Option.{same_Some, slice_get_within}
use Rattle.model_history.specs.declared.op_id.OpId.{OpId}
use Rattle.model_history.specs.History.{HistoryValue, IsOp, calls, entry}
use Rattle.order_causal.specs.Orders.{Ops, op, StandsAt}
use Rattle.cert_check.specs.Criteria.{Explains}
use Rattle.cert_check.specs.Schedules.{named}
use Rattle.cert_check.specs.Steps.Namings.{AreCountsAt}
use Rattle.cert_check.specs.Steps.Replays.{AreAnswered, IsAnsweredAfter, IsAnsweredAt, IsReplayAt, NamesOperations}
use Rattle.cert_check.proofs.Named.{length-named, take-named, take_next}
use Rattle.cert_check.proofs.NamingSteps.{counting, counts_in_front, named_here, next_stands, stands_in_front}

-- one call more
pub calls_push : {S C R : Type 0} (h : HistoryValue S C R) (ops : List OpId) (o : OpId) (c : C)
    → option_map (λ (e : C × Option R). e.0) (entry h o) ≡ Some c → calls h (ops ++ o ∷ []) ≡ calls h ops ++ c ∷ []
calls_push {S} {C} {R} h ops o c is =
    let call : OpId → Option C = λ o. option_map (λ (e : C × Option R). e.0) (entry h o) in
    filter_map-append call ops (o ∷ []) ∙ ap (λ (found : Option C). filter_map call ops ++ cons_option found []) is

module _ {S C R : Type 0} (h : HistoryValue S C R) (list : List ℕ) where
  -- what is named next is of the history
  pub names_next : NamesOperations h list → (i n s : ℕ) → slice_get list i ≡ Some s → (counts : List ℕ) → AreCountsAt list i n counts
      → IsOp h (op s (get_or counts s 0))
  names_next names i n s here counts at = names.each i (op s (get_or counts s 0)) (next_stands list i n s here counts at)

-- one step of a replay that takes in what it names
module _ {S C R X : Type 0} (stands : X → S → List C → Type 0) (h : HistoryValue S C R) (list : List ℕ) (i s : ℕ) (here : slice_get list i ≡ Some s)
    (counts : List ℕ) (at : AreCountsAt list i (length h.1) counts)
    (o : OpId) (is : o ≡ op s (get_or counts s 0)) (is_op : IsOp h o) (later : List ℕ) (counted : later ≡ set counts s (get_or counts s 0 + 1)) where
  pub replayed_on : (object : X) → stands object h.0 (calls h (take i (named list) ++ o ∷ []))
      → IsReplayAt stands h list (i + 1) (take (i + 1) (named list)) later object
  replayed_on object state = record {
    counting = counting h [] list i s here counts at o is is_op later counted;
    state = subst (λ (ops : List OpId). stands object h.0 (calls h ops)) (sym (take_next (named list) i o (named_here h [] list i s here counts at o is is_op later counted))) state;
  }

module _ {S C R : Type 0} (answer : S → List C → C → R) (h : HistoryValue S C R) (kept : Ops) (list : List ℕ) where
  -- what stands at a place is answered
  pub answered_here : (i : ℕ) (o : OpId) → StandsAt (named list) i o → (IsTrue (kept o) → IsAnsweredAfter answer h (take i (named list)) o)
      → IsAnsweredAt answer h kept list i
  answered_here i o there answered x stands =
      let same : o ≡ x = same_Some _ _ (sym there ∙ stands) in
      subst (λ (y : OpId). IsTrue (kept y) → IsAnsweredAfter answer h (take i (named list)) y) same answered

  -- before the first place all is answered
  pub none_answered : AreAnswered answer h kept list 0
  none_answered = record { each = λ j below. absurd (omega arith) }

  -- where all that a list names is answered, it explains what is kept
  pub explains-from : AreAnswered answer h kept list (length list) → Explains answer h (named list) kept
  explains-from answered k o c r there inside known =
      let within = slice_get_within (named list) k o there in
      let long = length-named list in
      answered.each k (omega arith) o there inside c r known

  pub explains-answered : Explains answer h (named list) kept → AreAnswered answer h kept list (length list)
  explains-answered explains = record { each = λ k below o there inside c r known. explains k o c r there inside known }

-- an operation whose return is not known has no known return
pub unknown_return : {S C R : Type 0} (h : HistoryValue S C R) (o : OpId) (ret : Option R)
    → option_map (λ (e : C × Option R). e.1) (entry h o) ≡ Some ret → is_some ret ≡ false
    → (x : OpId) → x ≡ o → (c : C) (r : R) → entry h x ≡ Some (c, Some r) → ⊥
unknown_return {S} {C} {R} h o ret is none x same c r known =
    let returned : OpId → Option (Option R) = λ y. option_map (λ (e : C × Option R). e.1) (entry h y) in
    let there : Some (Some r) ≡ Some ret = sym (ap (λ found. option_map (λ (e : C × Option R). e.1) found) known) ∙ ap returned same ∙ is in
    let equal : Some r ≡ ret = same_Some _ _ there in
    true≢false (ap is_some equal ∙ none)

-- two lists with the same front are answered alike in it
module _ {S C R : Type 0} (answer : S → List C → C → R) (h : HistoryValue S C R) (kept : Ops) (xs ys : List ℕ) (n : ℕ) (same : take n xs ≡ take n ys) where
  named_front : (j : ℕ) → j ≤ n → take j (named xs) ≡ take j (named ys)
  named_front j most =
      sym (take-take j n (named xs) most)
      ∙ ap (λ (ops : List OpId). take j ops) (take-named xs n ∙ ap named same ∙ sym (take-named ys n))
      ∙ take-take j n (named ys) most

  pub answered_in_front : n ≤ length xs → AreAnswered answer h kept xs (length xs) → AreAnswered answer h kept ys n
  answered_in_front within answered = record {
    each = λ j below o there.
        subst (λ (ops : List OpId). IsTrue (kept o) → IsAnsweredAfter answer h ops o) (named_front j (omega arith))
        (answered.each j (omega arith) o (stands_in_front ys xs n (sym same) j o below there));
  }

-- a replay to the end of a list that another begins with
pub replayed_front : {S C R X : Type 0} (stands : X → S → List C → Type 0) (h : HistoryValue S C R) (xs ys : List ℕ) (n : ℕ) → n ≡ length xs
    → take n xs ≡ take n ys → (counts : List ℕ) (object : X)
    → IsReplayAt stands h xs (length xs) (named xs) counts object
    → IsReplayAt stands h ys n (take n (named ys)) counts object
replayed_front {S} {C} {R} {X} stands h xs ys n ends same counts object at =
    let begins : xs ≡ take n ys = sym (take_all n xs (omega arith)) ∙ same in
    let there : IsReplayAt stands h xs n (named xs) counts object = subst (λ (m : ℕ). IsReplayAt stands h xs m (named xs) counts object) (sym ends) at in record {
      counting = counts_in_front xs ys n same (length h.1) counts there.counting;
      state = subst (λ (ops : List OpId). stands object h.0 (calls h ops)) (ap named begins ∙ sym (take-named ys n)) there.state;
    }

-- a replay that has come to the end of its list
pub replayed_whole : {S C R X : Type 0} (stands : X → S → List C → Type 0) (h : HistoryValue S C R) (list : List ℕ) (i : ℕ) → i ≡ length list
    → (counts : List ℕ) (object : X) → IsReplayAt stands h list i (take i (named list)) counts object
    → IsReplayAt stands h list (length list) (named list) counts object
replayed_whole {S} {C} {R} {X} stands h list i ends counts object at =
    let long = length-named list in
    let all : take i (named list) ≡ named list = take_all i (named list) (omega arith) in
    subst (λ (n : ℕ). IsReplayAt stands h list n (named list) counts object) ends
    (subst (λ (ops : List OpId). IsReplayAt stands h list i ops counts object) all at)
