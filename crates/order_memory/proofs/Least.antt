-- The least of the writes of one value to one variable.
use Rattle.std.proofs.Common.{◌≡◌, ℕ, ◌<◌, ◌≤◌, ⊎_elim, Bool, true, false, List, length, get_or, arith, sym, refl, ◌∙◌, subst, subst₂, Ordering, Less, Equal, Greater}
use Rattle.std.specs.Prelude.{Contains, Some, slice_get, IsSortedByKey}
use Rattle.std.specs.List.Sorted.{IsPartitionPoint, IsPartitionedBy}
use Rattle.std.specs.Ordering.{nat_cmp, ordering_then, is_lt}
use Rattle.std.specs.Cmp.{IsTotalOrder, nat_cmp_total, on_total, then_total}
use Rattle.std.proofs.lemmas.Cmp.{tied_itself}
use Rattle.std.proofs.lemmas.Bool.{cases_lt, cases_eq}
use Rattle.std.proofs.lemmas.Option.{same_Some, slice_get-get_or, slice_get_within}
use Rattle.std.proofs.lemmas.List.Sorted.{searchable_from_sorted, sorted_far, ranks_by}
use Rattle.model_history.specs.declared.op_id.OpId.{OpId}
use Rattle.order_memory.specs.declared.writes.Write.{Write}
use Rattle.order_causal.specs.Orders.{IsEarlier}
use Rattle.order_memory.specs.Steps.Written.{by_op, by_variable, IsSorted, AreInOrder, IsLeastWrite}
use Rattle.order_memory.proofs.EarlierLaws.{by_op_total, earlier-less, equal-cmp, less-index}
use Rattle.order_memory.proofs.Sorted.{by_variable_total, same_pairs, tied}

-- the order by variable, then by value, then by operation
abbrev pub by_write : ℕ × ℕ × OpId → ℕ × ℕ × OpId → Ordering
by_write a b = ordering_then (ordering_then (nat_cmp a.0 b.0) (nat_cmp a.1 b.1)) (by_op a.2 b.2)

by_write_total : IsTotalOrder by_write
by_write_total = then_total (then_total (on_total (λ t. t.0) nat_cmp_total) (on_total (λ t. t.1) nat_cmp_total)) (on_total (λ t. t.2) by_op_total)

abbrev triple_of : Write → ℕ × ℕ × OpId
triple_of w = (w.key, w.value, w.op)

abbrev pair_of : Write → ℕ × ℕ
pair_of w = (w.key, w.value)

first_not_less : (p q : Ordering) → is_lt (ordering_then p q) ≡ false → is_lt p ≡ false
first_not_less Less q not_less = absurd cc
first_not_less Equal q not_less = refl
first_not_less Greater q not_less = refl

second_not_less : (p q : Ordering) → p ≡ Equal → is_lt (ordering_then p q) ≡ false → is_lt q ≡ false
second_not_less Less q is not_less = absurd cc
second_not_less Equal q is not_less = not_less
second_not_less Greater q is not_less = absurd cc

not_earlier : (b a : OpId) → is_lt (by_op b a) ≡ false → ¬ IsEarlier b a
not_earlier b a not_less earlier = let less = earlier-less b a earlier in let is : false ≡ true = sym not_less ∙ less in absurd cc

module _ (writes : List Write) (sorted : IsSortedByKey triple_of by_write writes) where
  -- what is sorted by variable, value and operation is sorted by variable and value
  pub sorted-from_keys : IsSorted writes
  sorted-from_keys k d low below = first_not_less _ _ (sorted k d low below)

  -- and rises by operation among equal ones
  pub in_order-from_keys : AreInOrder writes
  in_order-from_keys i j a b before at_i at_j same_key same_value =
      let inside = slice_get_within writes j b at_j in
      let is_a : get_or writes i a ≡ a = same_Some _ _ (sym (slice_get-get_or writes i a (omega arith)) ∙ at_i) in
      let is_b : get_or writes j a ≡ b = same_Some _ _ (sym (slice_get-get_or writes j a inside) ∙ at_j) in
      let far : is_lt (by_write (triple_of (get_or writes j a)) (triple_of (get_or writes i a))) ≡ false =
      sorted_far (λ x y. is_lt (by_write (triple_of x) (triple_of y))) (ranks_by by_write_total triple_of) writes sorted i j a (omega arith) inside in
      let here : is_lt (by_write (triple_of b) (triple_of a)) ≡ false =
      subst₂ (λ (x y : Write). is_lt (by_write (triple_of x) (triple_of y)) ≡ false) is_b is_a far in
      let equal : ordering_then (nat_cmp b.key a.key) (nat_cmp b.value a.value) ≡ Equal =
      rw (equal-cmp b.key a.key (sym same_key)) (equal-cmp b.value a.value (sym same_value)) in
      not_earlier b.op a.op (second_not_less _ _ equal here)

module _ (writes : List Write) (key value : ℕ) where
  -- before the writes of the value to the variable
  abbrev pub is_before : Write → Bool
  is_before w = is_lt (by_variable (w.key, w.value) (key, value))

  pub before-partitioned : IsSorted writes → IsPartitionedBy is_before writes
  before-partitioned sorted i j d up_to below less =
      less-index (by_variable (pair_of (get_or writes i d)) (key, value)) (by_variable (pair_of (get_or writes j d)) (key, value))
      (searchable_from_sorted by_variable_total pair_of writes (key, value) sorted i j d up_to below) less

  module _ (i : ℕ) (split : IsPartitionPoint (λ w. is_before w ≡ true) (λ w. is_before w ≡ false) writes i) where
    not_before : (w : Write) → w.key ≡ key → w.value ≡ value → is_before w ≡ false
    not_before w same_key same_value = rw (same_key, same_value, tied_itself by_variable_total (key, value)) refl

    after : (w : Write) (inside : Contains writes w) → w.key ≡ key → w.value ≡ value → i ≤ inside.0
    after w inside same_key same_value = ⊎_elim
        (λ (below : inside.0 < i).
        let less = rw inside.2 at (split.0 inside.0 w (omega arith) below) in
        let not_less = not_before w same_key same_value in
        absurd cc)
        (λ (above : i ≤ inside.0). above)
        (cases_lt inside.0 i)

    -- none of the writes where the place is past the end
    pub none-past : length writes ≤ i → (w : Write) → Contains writes w → w.key ≡ key → w.value ≡ value → ⊥
    none-past past w inside same_key same_value =
        let from = after w inside same_key same_value in
        let below = inside.1 in
        omega arith

    module _ (first : Write) (below : i < length writes) (first-at : slice_get writes i ≡ Some first) where
      inside-at : (w : Write) (inside : Contains writes w) → slice_get writes inside.0 ≡ Some w
      inside-at w inside = slice_get-get_or writes inside.0 w inside.1 ∙ (λ j. Some (inside.2 j))

      -- the write at the place is the first one, where it is one
      pub least-found : AreInOrder writes → first.key ≡ key → first.value ≡ value → IsLeastWrite writes key value first.op
      least-found in_order same_key same_value = record {
        writes_it =
            let here : first ≡ record { op = first.op; key = key; value = value } = λ j. record { op = first.op; key = same_key j; value = same_value j } in
            let there : Contains writes first = (i, below, same_Some _ _ (sym (slice_get-get_or writes i first below) ∙ first-at)) in
            subst (λ (w : Write). Contains writes w) here there;
        least = λ w inside w_key w_value earlier. ⊎_elim
            (λ (here : i ≡ inside.0).
            let same : first ≡ w = same_Some _ _ (sym first-at ∙ subst (λ (k : ℕ). slice_get writes k ≡ Some w) (sym here) (inside-at w inside)) in
            let turned = subst (λ (x : Write). IsEarlier x.op first.op) (sym same) earlier in
            ⊎_elim
            (λ (less : first.op.session < first.op.session). let none = less in omega arith)
            (λ (less : (first.op.session ≡ first.op.session) × (first.op.index < first.op.index)). let none = less.1 in omega arith)
            turned)
            (λ (apart : i ≡ inside.0 → ⊥).
            let from = after w inside w_key w_value in
            let before : i < inside.0 = omega arith in
            in_order i inside.0 first w before first-at (inside-at w inside) (same_key ∙ sym w_key) (same_value ∙ sym w_value) earlier)
            (cases_eq i inside.0);
      }

      -- where it is none, there is none
      pub none-found : IsSorted writes → (first.key ≡ key → first.value ≡ value → ⊥) → (w : Write) → Contains writes w → w.key ≡ key → w.value ≡ value → ⊥
      none-found sorted other w inside w_key w_value =
          let from = after w inside w_key w_value in
          let far : is_lt (by_variable (pair_of (get_or writes inside.0 w)) (pair_of (get_or writes i w))) ≡ false =
          sorted_far (λ x y. is_lt (by_variable (pair_of x) (pair_of y))) (ranks_by by_variable_total pair_of) writes sorted i inside.0 w from inside.1 in
          let at_i : get_or writes i w ≡ first = same_Some _ _ (sym (slice_get-get_or writes i w below) ∙ first-at) in
          let not_after : is_lt (by_variable (pair_of w) (pair_of first)) ≡ false =
          subst₂ (λ (x y : Write). is_lt (by_variable (pair_of x) (pair_of y)) ≡ false) inside.2 at_i far in
          let same_pair : ◌≡◌ {A = ℕ × ℕ} (pair_of w) (key, value) = λ j. (w_key j, w_value j) in
          let not_greater : is_lt (by_variable (key, value) (pair_of first)) ≡ false =
          subst (λ (p : ℕ × ℕ). is_lt (by_variable p (pair_of first)) ≡ false) same_pair not_after in
          let not_less : is_before first ≡ false = subst (λ (x : Write). is_before x ≡ false) at_i (split.1 i w (omega arith) below) in
          let same = same_pairs (pair_of first) (key, value) (tied (pair_of first) (key, value) not_less not_greater) in
          other same.0 same.1
