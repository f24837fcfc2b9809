-- Writes that are sorted by variable and value.
use Rattle.std.proofs.Common.{◌≡◌, ℕ, ◌+◌, ◌<◌, ◌≤◌, ⊎_elim, Bool, true, false, List, length, get_or, arith, ap, sym, refl, ◌∙◌, subst, eqb-true, Result, Ok, Err, is_ok, Ordering, Less, Equal, Greater, zero, suc, add-zero, ◌-◌, subst₂, not, ◌&&◌, eq-eqb}
use Rattle.std.specs.Prelude.{Contains, IsTrue, ◌↔◌, ◌==◌}
use Rattle.std.specs.List.{HoldsAt, AllAdjacentBelow}
use Rattle.std.specs.List.Sorted.{IsBinarySearchResult, IsSearchInRange, IsPartitionPoint}
use Rattle.std.specs.Ordering.{nat_cmp, ordering_then, is_eq, is_lt, ordering_reverse}
use Rattle.std.specs.Cmp.{IsTotalOrder, nat_cmp_total, unsigned_tied, on_total, then_total}
use Rattle.std.proofs.lemmas.Cmp.{tied_itself}
use Rattle.std.proofs.lemmas.Bool.{cases_lt, and_from}
use Rattle.std.proofs.lemmas.Option.{same_Some, slice_get-get_or}
use Rattle.model_history.specs.declared.op_id.OpId.{OpId}
use Rattle.std.proofs.lemmas.List.Sorted.{searchable_from_sorted, sorted_far, ranks_by}
use Rattle.std.proofs.lemmas.List.Elements.{Contains-get_or}
use Rattle.order_memory.specs.declared.writes.Write.{Write}
use Rattle.order_causal.specs.Orders.{op}
use Rattle.order_memory.specs.Steps.Written.{by_variable, IsSorted, IsOne, AreOnce}

pub by_variable_total : IsTotalOrder by_variable
by_variable_total = then_total (on_total (λ p. p.0) nat_cmp_total) (on_total (λ p. p.1) nat_cmp_total)

equal_numbers : (a b : ℕ) → nat_cmp a b ≡ Equal → a ≡ b
equal_numbers a b e = eqb-true a b (sym (unsigned_tied a b) ∙ ap is_eq e)

both_equal : (p q : Ordering) → ordering_then p q ≡ Equal → (p ≡ Equal) × (q ≡ Equal)
both_equal Less q e = absurd cc
both_equal Equal q e = (refl, e)
both_equal Greater q e = absurd cc

-- pairs that the order does not tell apart are equal
pub same_pairs : (a b : ℕ × ℕ) → by_variable a b ≡ Equal → (a.0 ≡ b.0) × (a.1 ≡ b.1)
same_pairs a b e =
    let both = both_equal (nat_cmp a.0 b.0) (nat_cmp a.1 b.1) e in
    (equal_numbers a.0 b.0 both.0, equal_numbers a.1 b.1 both.1)

found_at : (writes : List Write) (key value i : ℕ) → i < length writes
    → HoldsAt (λ (w : Write). by_variable (w.key, w.value) (key, value) ≡ Equal) writes i
    → (w : Write) × Contains writes w × (w.key ≡ key) × (w.value ≡ value)
found_at writes key value i below equal =
    let any : Write = record { op = op 0 0; key = 0; value = 0 } in
    let same = same_pairs ((get_or writes i any).key, (get_or writes i any).value) (key, value) (equal any) in
    (get_or writes i any, Contains-get_or writes i any below, same.0, same.1)

not_found : (writes : List Write) (key value i : ℕ)
    → IsPartitionPoint (λ (w : Write). by_variable (w.key, w.value) (key, value) ≡ Less) (λ (w : Write). by_variable (w.key, w.value) (key, value) ≡ Greater) writes i
    → (w : Write) → Contains writes w → w.key ≡ key → w.value ≡ value → ⊥
not_found writes key value i split w inside same_key same_value =
    let equal : by_variable (w.key, w.value) (key, value) ≡ Equal = rw (same_key, same_value) (tied_itself by_variable_total (key, value)) in
    ⊎_elim
    (λ (below : inside.0 < i).
    let less = rw inside.2 at (split.0 inside.0 w (omega arith) below) in absurd cc)
    (λ (above : i ≤ inside.0).
    let greater = rw inside.2 at (split.1 inside.0 w above inside.1) in absurd cc)
    (cases_lt inside.0 i)

-- what a binary search of sorted writes answers
pub is_written-search : (writes : List Write) (key value : ℕ) (r : Result ℕ ℕ) (b : Bool) → IsSorted writes
    → IsSearchInRange r (length writes)
    → IsBinarySearchResult (λ (w : Write). by_variable (w.key, w.value) (key, value)) writes r → b ≡ is_ok r
    → IsTrue b ↔ ((w : Write) × Contains writes w × (w.key ≡ key) × (w.value ≡ value))
is_written-search writes key value (Ok i) b sorted in_range found is = (λ _. found_at writes key value i in_range found, λ _. is)
is_written-search writes key value (Err i) b sorted in_range split is = (
  (λ (yes : b ≡ true). absurd cc),
  λ there. absurd (not_found writes key value i
      (split (searchable_from_sorted by_variable_total (λ (w : Write). (w.key, w.value)) writes (key, value) sorted))
      there.0 there.1 there.2 there.3),
)

-- neither before the other
pub tied : (a b : ℕ × ℕ) → is_lt (by_variable a b) ≡ false → is_lt (by_variable b a) ≡ false → by_variable a b ≡ Equal
tied a b not_less not_greater =
    elim (by_variable a b) as (λ r. by_variable a b ≡ r → is_lt r ≡ false → r ≡ Equal) [
      | Less ↦ λ is. λ no. absurd cc
      | Equal ↦ λ is. λ no. refl
      | Greater ↦ λ is. λ no. let turned = by_variable_total.antisymm b a ∙ ap ordering_reverse is in absurd cc
    ] refl not_less

abbrev pair_of : Write → ℕ × ℕ
pair_of w = (w.key, w.value)

module _ (writes : List Write) (sorted : IsSorted writes) (neighbours : AllAdjacentBelow IsOne writes (length writes)) (d : Write) where
  one_after : (i n : ℕ) → i + n + 1 < length writes → IsOne (get_or writes i d) (get_or writes (i + n) d)
      → IsOne (get_or writes i d) (get_or writes (i + n + 1) d)
  one_after i n below before same_key same_value =
      let first : is_lt (by_variable (pair_of (get_or writes (i + n) d)) (pair_of (get_or writes i d))) ≡ false =
      sorted_far (λ a b. is_lt (by_variable (pair_of a) (pair_of b))) (ranks_by by_variable_total pair_of) writes sorted i (i + n) d (omega arith) (omega arith) in
      let last : is_lt (by_variable (pair_of (get_or writes (i + n + 1) d)) (pair_of (get_or writes (i + n) d))) ≡ false =
      sorted (i + n) d (omega arith) below in
      let same_pair : ◌≡◌ {A = ℕ × ℕ} (pair_of (get_or writes (i + n + 1) d)) (pair_of (get_or writes i d)) = λ j. (sym same_key j, sym same_value j) in
      let second : is_lt (by_variable (pair_of (get_or writes i d)) (pair_of (get_or writes (i + n) d))) ≡ false =
      subst (λ (p : ℕ × ℕ). is_lt (by_variable p (pair_of (get_or writes (i + n) d))) ≡ false) same_pair last in
      let same = same_pairs _ _ (tied (pair_of (get_or writes i d)) (pair_of (get_or writes (i + n) d)) second first) in
      before same.0 same.1 ∙ neighbours (i + n) d below (sym same.0 ∙ same_key) (sym same.1 ∙ same_value)

  -- entries at any distance that write one value to one variable are of one operation
  one_between : (i n : ℕ) → i + n < length writes → IsOne (get_or writes i d) (get_or writes (i + n) d)
  one_between i zero below = λ _ _. rw add-zero refl
  one_between i (suc n) below =
      let next : i + n + 1 ≡ i + suc n = omega arith in
      subst (λ (m : ℕ). IsOne (get_or writes i d) (get_or writes m d)) next (one_after i n (omega arith) (one_between i n (omega arith)))

  one_at : (i j : ℕ) → i ≤ j → j < length writes → IsOne (get_or writes i d) (get_or writes j d)
  one_at i j up_to below =
      let there : i + (j - i) ≡ j = omega arith in
      subst (λ (m : ℕ). IsOne (get_or writes i d) (get_or writes m d)) there (one_between i (j - i) (omega arith))

pub contained-at : (writes : List Write) (a d : Write) (inside : Contains writes a) → get_or writes inside.0 d ≡ a
contained-at writes a d inside =
    same_Some _ _ (sym (slice_get-get_or writes inside.0 d inside.1) ∙ slice_get-get_or writes inside.0 a inside.1) ∙ inside.2

-- sorted writes whose neighbours are apart are apart
pub once_from_neighbours : (writes : List Write) → IsSorted writes → AllAdjacentBelow IsOne writes (length writes) → AreOnce writes
once_from_neighbours writes sorted neighbours a b in_a in_b same_key same_value =
    let at_a = contained-at writes a a in_a in
    let at_b = contained-at writes b a in_b in
    let one = one_at writes sorted neighbours a in
    ⊎_elim
    (λ (below : in_a.0 < in_b.0).
    let same : IsOne a b = subst₂ (λ (x y : Write). IsOne x y) at_a at_b (one in_a.0 in_b.0 (omega arith) in_b.1) in
    same same_key same_value)
    (λ (above : in_b.0 ≤ in_a.0).
    let same : IsOne b a = subst₂ (λ (x y : Write). IsOne x y) at_b at_a (one in_b.0 in_a.0 above in_a.1) in
    sym (same (sym same_key) (sym same_value)))
    (cases_lt in_a.0 in_b.0)

-- two operations that differ
pub other_operation : (a b : OpId) → not ((a.session == b.session) && (a.index == b.index)) ≡ true → a ≡ b → ⊥
other_operation a b apart same =
    let both = and_from (a.session == b.session) (a.index == b.index) (eq-eqb a.session b.session (ap (λ (o : OpId). o.session) same)) (eq-eqb a.index b.index (ap (λ (o : OpId). o.index) same)) in
    let none = rw both at apart in
    absurd cc
