-- A replay over the one list up to an operation: what it takes in, and that it comes to the operation.
use Rattle.std.proofs.Common.{◌≡◌, ◌≢◌, ℕ, ◌+◌, ◌<◌, ◌≤◌, ◌↔◌, Bool, List, [], ◌∷◌, ◌++◌, length, take, drop, get_or, refl, sym, ap, ◌∙◌, subst, arith, ⊎_elim, lt-ltb}
use Rattle.std.specs.Prelude.{IsTrue, Some, filter, slice_get}
use Rattle.std.proofs.lemmas.Bool.{cases_eq, cases_lt, cond-true}
use Rattle.std.proofs.lemmas.List.{take-append-drop, drop_more, take_at}
use Rattle.std.proofs.lemmas.List.Elements.{filter-append}
use Rattle.std.proofs.lemmas.Option.{slice_get_within, get_or_from_slice_get}
use Rattle.model_history.specs.declared.op_id.OpId.{OpId}
use Rattle.model_history.specs.History.{HistoryValue, calls, entry, session}
use Rattle.order_causal.specs.Orders.{op, StandsAt}
use Rattle.order_causal.proofs.OrdersLaws.{same_op}
use Rattle.order_causal.specs.Vectors.{Counts, count, IsCounted, IsVectorOk}
use Rattle.cert_check.specs.Certificates.{counted, IsArbitratedPiece}
use Rattle.cert_check.specs.Schedules.{named, StandsBefore}
use Rattle.order_causal.specs.Schedules.{placed}
use Rattle.cert_check.specs.Steps.Namings.{AreCountsAt}
use Rattle.cert_check.specs.Steps.Replays.{IsAnsweredAfter, NamesOperations}
use Rattle.cert_check.proofs.ConvergentLaws.{only-same}
use Rattle.cert_check.proofs.FilteredLaws.{filter_in_order}
use Rattle.cert_check.proofs.Named.{placed-next, placed-one, placed-none, named_once, named_within}
use Rattle.cert_check.proofs.Pasts.{only-itself}
use Rattle.cert_check.proofs.NamingSteps.{after_from_within, within_from_after}

module _ {X : Type 0} (p : X → Bool) where
  -- a list about one of its elements, and what a filter that keeps the element makes of it
  split_at : (xs : List X) (i : ℕ) (x : X) → slice_get xs i ≡ Some x → xs ≡ take i xs ++ x ∷ drop (i + 1) xs
  split_at xs i x here =
      sym (take-append-drop i xs) ∙ ap (λ (ys : List X). take i xs ++ ys)
      (drop_more xs i x (slice_get_within xs i x here) ∙ ap (λ (y : X). y ∷ drop (i + 1) xs) (get_or_from_slice_get xs i x x here))

  filter_about : (xs : List X) (i : ℕ) (x : X) → slice_get xs i ≡ Some x → IsTrue (p x)
      → filter p xs ≡ filter p (take i xs) ++ x ∷ filter p (drop (i + 1) xs)
  filter_about xs i x here passes =
      ap (filter p) (split_at xs i x here) ∙ filter-append p (take i xs) (x ∷ drop (i + 1) xs)
      ∙ ap (λ (ys : List X). filter p (take i xs) ++ ys) (cond-true (p x) (x ∷ filter p (drop (i + 1) xs)) (filter p (drop (i + 1) xs)) passes)

  slice_get_at : (xs ys : List X) (x : X) → slice_get (xs ++ x ∷ ys) (length xs) ≡ Some x
  slice_get_at [] ys x = refl
  slice_get_at (y ∷ xs) ys x = slice_get_at xs ys x

  -- the place of the element among what the filter keeps, and the front before it
  pub filter_stands : (xs : List X) (i : ℕ) (x : X) → slice_get xs i ≡ Some x → IsTrue (p x)
      → slice_get (filter p xs) (length (filter p (take i xs))) ≡ Some x
  filter_stands xs i x here passes =
      subst (λ (ys : List X). slice_get ys (length (filter p (take i xs))) ≡ Some x) (sym (filter_about xs i x here passes))
      (slice_get_at (filter p (take i xs)) (filter p (drop (i + 1) xs)) x)

  pub filter_front : (xs : List X) (i : ℕ) (x : X) → slice_get xs i ≡ Some x → IsTrue (p x)
      → take (length (filter p (take i xs))) (filter p xs) ≡ filter p (take i xs)
  filter_front xs i x here passes =
      ap (take (length (filter p (take i xs)))) (filter_about xs i x here passes)
      ∙ take_at (filter p (take i xs)) (x ∷ filter p (drop (i + 1) xs)) (length (filter p (take i xs))) refl

  -- where an element stands once, the filter has it once
  pub filter_once : (xs : List X) (x : X) → ((j k : ℕ) → slice_get xs j ≡ Some x → slice_get xs k ≡ Some x → j ≡ k)
      → (j k : ℕ) → slice_get (filter p xs) j ≡ Some x → slice_get (filter p xs) k ≡ Some x → j ≡ k
  filter_once xs x once j k at_j at_k =
      ⊎_elim
      (λ (below : j < k). let r = filter_in_order p xs j k x x below at_j at_k in
      let less = r.2 in
      let same = once r.0 r.1 r.3 r.4 in absurd (omega arith))
      (λ (up_to : k ≤ j). ⊎_elim
      (λ (below : k < j). let r = filter_in_order p xs k j x x below at_k at_j in
      let less = r.2 in
      let same = once r.0 r.1 r.3 r.4 in absurd (omega arith))
      (λ (other : j ≤ k). omega arith)
      (cases_lt k j))
      (cases_lt j k)

-- a list that names each operation of a history as often as it is there names no other
pub whole_names : {S C R : Type 0} (h : HistoryValue S C R) (list : List ℕ) → ((s : ℕ) → placed list s ≡ length (session h s)) → NamesOperations h list
whole_names h list whole = record {
  each = λ k o there. let within = named_within list k o there in let all = whole o.session in omega arith;
}

-- where another operation is named, the operation is named later
pub not_named_yet : (list : List ℕ) (i n s : ℕ) → slice_get list i ≡ Some s → (counts : List ℕ) → AreCountsAt list i n counts
    → (o : OpId) → op s (get_or counts s 0) ≢ o → placed (take i list) o.session ≤ o.index → placed (take (i + 1) list) o.session ≤ o.index
not_named_yet list i n s here counts at o apart not_yet =
    let next = placed-next o.session list i s here in
    let now = at.each s in
    ⊎_elim
    (λ (same : s ≡ o.session).
    let one = placed-one o.session s same in
    let own = ap (λ (t : ℕ). placed (take i list) t) same in
    ⊎_elim
    (λ (equal : get_or counts s 0 ≡ o.index). absurd (apart (same_op (op s (get_or counts s 0)) o same equal)))
    (λ (other : get_or counts s 0 ≡ o.index → ⊥). omega arith)
    (cases_eq (get_or counts s 0) o.index))
    (λ (other : s ≡ o.session → ⊥). let none = placed-none o.session s other in omega arith)
    (cases_eq s o.session)

-- the piece of an operation by the one list, at the operation's place
module _ {S C R : Type 0} (answer : S → List C → C → R) (h : HistoryValue S C R) (v : Counts) (list : List ℕ) (o : OpId) (good : IsVectorOk h v o)
    (i : ℕ) (stands : StandsAt (named list) i o) (counts : List ℕ) (at : AreCountsAt list (i + 1) (length h.1) counts) where
  counts_itself : IsTrue (counted v o o)
  counts_itself = let own = good.own in lt-ltb o.index (count v o o.session) (omega arith)

  pub arbitrated-from : ((s : ℕ) → count v o s ≤ get_or counts s 0) → IsAnsweredAfter answer h (filter (counted v o) (take i (named list))) o
      → IsArbitratedPiece answer h v list o
  arbitrated-from within answered = record {
    vector = good;
    after_counted = λ k a there.
        let same : i ≡ k = named_once list i k o stands there in
        subst (λ (j : ℕ). IsCounted v o a → a ≢ o → StandsBefore (named list) j a) same
        (after_from_within v list i (length h.1) o stands counts at within a);
    explains = λ k x c r there alone known.
        let is : x ≡ o = only-same o x alone in
        let place : length (filter (counted v o) (take i (named list))) ≡ k =
        filter_once (counted v o) (named list) o (λ j l. named_once list j l o)
        (length (filter (counted v o) (take i (named list)))) k (filter_stands (counted v o) (named list) i o stands counts_itself)
        (subst (λ (y : OpId). StandsAt (filter (counted v o) (named list)) k y) is there) in
        let front : take k (filter (counted v o) (named list)) ≡ filter (counted v o) (take i (named list)) =
        ap (λ (j : ℕ). take j (filter (counted v o) (named list))) (sym place) ∙ filter_front (counted v o) (named list) i o stands counts_itself in
        subst (λ (ops : List OpId). r ≡ answer h.0 (calls h ops) c) (sym front)
        (answered c r (subst (λ (y : OpId). entry h y ≡ Some (c, Some r)) is known));
  }

  pub arbitrated-within : IsArbitratedPiece answer h v list o → (s : ℕ) → count v o s ≤ get_or counts s 0
  arbitrated-within piece =
      within_from_after v list i (length h.1) o stands counts at (λ a. piece.after_counted i a stands)

  arbitrated-answered : IsArbitratedPiece answer h v list o → IsAnsweredAfter answer h (filter (counted v o) (take i (named list))) o
  arbitrated-answered piece c r known =
      subst (λ (ops : List OpId). r ≡ answer h.0 (calls h ops) c) (filter_front (counted v o) (named list) i o stands counts_itself)
      (piece.explains (length (filter (counted v o) (take i (named list)))) o c r
      (filter_stands (counted v o) (named list) i o stands counts_itself) (only-itself o) known)

  -- the tests that decide it
  pub arbitrated-tests : (complete answered : Bool) → IsTrue complete ↔ ((s : ℕ) → count v o s ≤ get_or counts s 0)
      → IsTrue answered ↔ IsAnsweredAfter answer h (filter (counted v o) (take i (named list))) o
      → (IsTrue complete × IsTrue answered) ↔ IsArbitratedPiece answer h v list o
  arbitrated-tests complete answered within after = (
    (λ both. arbitrated-from (within.0 both.0) (after.0 both.1)),
    λ piece. (within.1 (arbitrated-within piece), after.1 (arbitrated-answered piece)),
  )
