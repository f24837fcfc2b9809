-- The first raise that gives a pair, by going back through the raises of one operation.
use Rattle.std.proofs.Common.{◌≡◌, ℕ, ◌+◌, ◌<◌, ◌≤◌, List, [], ◌∷◌, ◌++◌, ◌⊎◌, Bool, true, false, cond, length, ⊎_elim, refl, sym, ◌∙◌, ap₂, subst, arith, eq-or-lt_of_le, length-append, nat_cmp}
use Rattle.std.specs.Prelude.{MatchOption, None, Option, Some, slice_get}
use Rattle.std.specs.BTreeMap.{BTreeMap, get, is_at}
use Rattle.std.specs.Map.{lookup}
use Rattle.std.specs.Cmp.{nat_cmp_total, unsigned_tied}
use Rattle.std.specs.declared.cmp.Ordering.{Ordering}
use Rattle.std.specs.declared.cmp.Ordering.TheVariants.{Less, Equal, Greater}
use Rattle.std.specs.Ordering.{is_eq, ordering_then}
use Rattle.std.proofs.lemmas.Bool.{cases_lt, eqb-true}
use Rattle.std.proofs.lemmas.Cmp.{tied_itself}
use Rattle.std.proofs.lemmas.Option.{same_Some, slice_get_within}
use Rattle.model_history.specs.declared.op_id.OpId.{OpId}
use Rattle.order_memory.specs.declared.growing_order.Raise.{Raise}
use Rattle.order_causal.proofs.Fronts.{push-at, push-last}
use Rattle.order_causal.proofs.OrdersLaws.{same_op}
use Rattle.pattern_check.specs.Derivations.{Pair}
use Rattle.pattern_search.specs.Steps.Reasons.{AreLinked, IsFirstFrom, IsFirstRaise, IsLastOf, IsRaiseOf, IsRaisedBy, Raises, by_place, end_of}

-- two places are the same exactly where the order of operations has them equal
both-equal : (x y : Ordering) → is_eq (ordering_then x y) ≡ true → (is_eq x ≡ true) × (is_eq y ≡ true)
both-equal Less y is = absurd cc
both-equal Equal y is = (refl, is)
both-equal Greater y is = absurd cc

at-same : (a b : OpId) → is_at (by_place a) b ≡ true → a ≡ b
at-same a b is =
    let parts = both-equal (nat_cmp a.session b.session) (nat_cmp a.index b.index) is in
    same_op a b (eqb-true a.session b.session (sym (unsigned_tied a.session b.session) ∙ parts.0))
    (eqb-true a.index b.index (sym (unsigned_tied a.index b.index) ∙ parts.1))

at-itself : (a : OpId) → is_at (by_place a) a ≡ true
at-itself a =
    let both : Ordering → Ordering → Bool = λ x y. is_eq (ordering_then x y) in
    ap₂ both (tied_itself nat_cmp_total a.session) (tied_itself nat_cmp_total a.index)

module _ (raises : List Raise) where
  raise-same : (i : ℕ) (d e : Raise) → slice_get raises i ≡ Some d → slice_get raises i ≡ Some e → d ≡ e
  raise-same i d e one two = same_Some d e (sym one ∙ two)

  of-second : (p : Pair) (i : ℕ) → IsRaisedBy raises p i → IsRaiseOf raises p.1 i
  of-second p i by = (by.0, by.1, by.2.0)

  -- at first nothing is found, from behind the last raise of the operation on
  pub first-begin : (p : Pair) (place : Option ℕ) → IsLastOf raises (length raises) p.1 place → IsFirstFrom raises p (end_of place) None
  first-begin p place last = record {
    raised = λ i is. absurd cc;
    first = λ i k is from by. absurd cc;
    none = λ _ i from by. last.none_behind i from (slice_get_within raises i by.0 by.1) (of-second p i by);
  }

  module _ (p : Pair) (n : ℕ) (e : Raise) (at : slice_get raises n ≡ Some e) (found place : Option ℕ) (before : IsFirstFrom raises p (n + 1) found)
      (link : IsLastOf raises n p.1 place) where
    not-between : (i : ℕ) → end_of place ≤ i → IsRaisedBy raises p i → n ≤ i
    not-between i from by = ⊎_elim
        (λ (below : i < n). absurd (link.none_behind i from below (of-second p i by)))
        (λ (up : n ≤ i). up)
        (cases_lt i n)

    -- a raise of the operation that gives the pair
    pub first-hit : Raises e p → IsFirstFrom raises p (end_of place) (Some n)
    first-hit gives = record {
      raised = λ i is. subst (λ (j : ℕ). IsRaisedBy raises p j) (same_Some n i is) (e, at, gives);
      first = λ i k is from by.
          let same : n ≡ k = same_Some n k is in
          let up = not-between i from by in
          omega arith;
      none = λ is i from by. absurd cc;
    }

    behind : ¬ Raises e p → (i : ℕ) → end_of place ≤ i → IsRaisedBy raises p i → n + 1 ≤ i
    behind not i from by = ⊎_elim
        (λ (same : n ≡ i).
        let there : slice_get raises n ≡ Some by.0 = subst (λ (j : ℕ). slice_get raises j ≡ Some by.0) (sym same) by.1 in
        absurd (not (subst (λ (d : Raise). Raises d p) (raise-same n by.0 e there at) by.2)))
        (λ (less : n < i). omega arith)
        (let up = not-between i from by in eq-or-lt_of_le up)

    -- one that doesn't
    pub first-miss : ¬ Raises e p → IsFirstFrom raises p (end_of place) found
    first-miss not = record {
      raised = before.raised;
      first = λ i k is from by. before.first i k is (behind not i from by) by;
      none = λ is i from by. before.none is i (behind not i from by) by;
    }

    -- either
    pub first-step : (next : Option ℕ) → (Raises e p × (next ≡ Some n)) ⊎ ((¬ Raises e p) × (next ≡ found)) → IsFirstFrom raises p (end_of place) next
    first-step next is = ⊎_elim
        (λ (hit : Raises e p × (next ≡ Some n)). subst (λ (q : Option ℕ). IsFirstFrom raises p (end_of place) q) (sym hit.1) (first-hit hit.0))
        (λ (miss : (¬ Raises e p) × (next ≡ found)). subst (λ (q : Option ℕ). IsFirstFrom raises p (end_of place) q) (sym miss.1) (first-miss miss.0))
        is

  -- at the end it is the first
  pub first-end : (p : Pair) (found : Option ℕ) → IsFirstFrom raises p 0 found → MatchOption found ((i : ℕ) → ¬ IsRaisedBy raises p i) (IsFirstRaise raises p)
  first-end p None is = λ i by. is.none refl i (omega arith) by
  first-end p (Some n) is = record { raised = is.raised n refl; first = λ i by. is.first i n refl (omega arith) by }

  none-last : (b : OpId) → IsLastOf raises 0 b None
  none-last b = record { inside = omega arith; is_of = λ i is. absurd cc; none_behind = λ i from below. absurd (omega arith) }

  -- no raises
  pub linked-none : (latest : BTreeMap OpId ℕ) → latest.entries ≡ [] → AreLinked raises 0 latest []
  linked-none latest empty = record {
    count = refl;
    last = λ b. subst (λ (es : List (OpId × ℕ)). IsLastOf raises 0 b (lookup (is_at (by_place b)) es)) (sym empty) (none-last b);
    each = λ i e place at there. absurd cc;
  }

  module _ (n : ℕ) (e : Raise) (at : slice_get raises n ≡ Some e) (latest after : BTreeMap OpId ℕ) (earlier : List (Option ℕ))
      (linked : AreLinked raises n latest earlier)
      (updates : (q : OpId) → get by_place after q ≡ cond (is_at (by_place e.op) q) (Some n) (get by_place latest q)) where
    last-here : (b : OpId) → e.op ≡ b → IsLastOf raises (n + 1) b (Some n)
    last-here b same = record {
      inside = omega arith;
      is_of = λ i is. subst (λ (j : ℕ). IsRaiseOf raises b j) (same_Some n i is) (e, at, same);
      none_behind = λ i from below. absurd (omega arith);
    }

    last-there : (b : OpId) (place : Option ℕ) → (e.op ≡ b → ⊥) → IsLastOf raises n b place → IsLastOf raises (n + 1) b place
    last-there b place apart last = record {
      inside = let inside = last.inside in omega arith;
      is_of = last.is_of;
      none_behind = λ i from below of. ⊎_elim
          (λ (same : i ≡ n).
          let there : slice_get raises n ≡ Some of.0 = subst (λ (j : ℕ). slice_get raises j ≡ Some of.0) same of.1 in
          apart (subst (λ (d : Raise). d.op ≡ b) (raise-same n of.0 e there at) of.2))
          (λ (less : i < n). last.none_behind i from less of)
          (let up_to : i ≤ n = omega arith in eq-or-lt_of_le up_to);
    }

    last-more : (b : OpId) (t : Bool) → is_at (by_place e.op) b ≡ t → IsLastOf raises (n + 1) b (cond t (Some n) (get by_place latest b))
    last-more b true is = last-here b (at-same e.op b is)
    last-more b false is = last-there b (get by_place latest b)
        (λ same. let yes : is_at (by_place e.op) b ≡ true = subst (λ (c : OpId). is_at (by_place e.op) c ≡ true) same (at-itself e.op) in absurd cc)
        (linked.last b)

    each-old : (i : ℕ) (d : Raise) (place : Option ℕ) → slice_get raises i ≡ Some d
        → slice_get (earlier ++ get by_place latest e.op ∷ []) i ≡ Some place → i ≡ n → IsLastOf raises i d.op place
    each-old i d place at_i there same =
        let size : length earlier ≡ i = linked.count ∙ sym same in
        let is : get by_place latest e.op ≡ place =
        push-last earlier (get by_place latest e.op) place (subst (λ (j : ℕ). slice_get (earlier ++ get by_place latest e.op ∷ []) j ≡ Some place) (sym size) there) in
        let here : slice_get raises n ≡ Some d = subst (λ (j : ℕ). slice_get raises j ≡ Some d) same at_i in
        let raise : e ≡ d = raise-same n e d at here in
        subst (λ (j : ℕ). IsLastOf raises j d.op place) (sym same)
        (subst (λ (r : Raise). IsLastOf raises n r.op place) raise
        (subst (λ (q : Option ℕ). IsLastOf raises n e.op q) is (linked.last e.op)))

    -- one raise more
    pub linked-more : AreLinked raises (n + 1) after (earlier ++ get by_place latest e.op ∷ [])
    linked-more = record {
      count = length-append earlier (get by_place latest e.op ∷ []) ∙ (let same = linked.count in omega arith);
      last = λ b. subst (λ (place : Option ℕ). IsLastOf raises (n + 1) b place) (sym (updates b)) (last-more b (is_at (by_place e.op) b) refl);
      each = λ i d place at_i there.
          let within = slice_get_within (earlier ++ get by_place latest e.op ∷ []) i place there in
          let size = length-append earlier (get by_place latest e.op ∷ []) in
          let count = linked.count in
          let up_to : i ≤ n = omega arith in
          ⊎_elim
          (λ (same : i ≡ n). each-old i d place at_i there same)
          (λ (less : i < n). linked.each i d place at_i (push-at earlier (get by_place latest e.op) i place (omega arith) there))
          (eq-or-lt_of_le up_to);
    }
