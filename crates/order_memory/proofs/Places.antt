-- Writes that are sorted by variable and operation.
use Rattle.std.proofs.Common.{◌≡◌, ◌⊎◌, ◌↔◌, ℕ, ◌+◌, ◌-◌, ◌<◌, ◌≤◌, inl, inr, ⊎_elim, Bool, true, false, List, length, get_or, arith, sym, refl, ◌∙◌, subst, Less, Equal}
use Rattle.std.specs.Prelude.{Contains}
use Rattle.std.specs.List.Sorted.{IsPartitionPoint, IsPartitionedBy}
use Rattle.std.specs.Ordering.{nat_cmp, is_lt}
use Rattle.std.specs.Cmp.{IsTotalOrder, nat_cmp_total, on_total, then_total}
use Rattle.std.proofs.lemmas.Bool.{cases_lt}
use Rattle.std.proofs.lemmas.Option.{same_Some, slice_get-get_or}
use Rattle.std.proofs.lemmas.List.Sorted.{searchable_from_sorted, sorted_far, ranks_by}
use Rattle.model_history.specs.declared.op_id.OpId.{OpId}
use Rattle.order_memory.specs.declared.writes.Write.{Write}
use Rattle.order_causal.specs.Orders.{op, IsEarlier}
use Rattle.order_memory.specs.Steps.Written.{by_op, by_place, AreByVariable, IsBelowWrite}
use Rattle.order_memory.proofs.EarlierLaws.{by_op_total, less-cmp, equal-cmp, cmp-less, cmp-equal, then-left, then-right, then-cases, earlier-less, less-earlier, less-index}

pub by_place_total : IsTotalOrder by_place
by_place_total = then_total (on_total (λ t. t.0) nat_cmp_total) (on_total (λ t. t.1) by_op_total)

-- less by variable, then by operation
abbrev pub IsLess : ℕ → OpId → ℕ → OpId → Type 0
IsLess x a y b = (x < y) ⊎ ((x ≡ y) × IsEarlier a b)

pub place-less : (x y : ℕ) (a b : OpId) → IsLess x a y b → is_lt (by_place (x, a) (y, b)) ≡ true
place-less x y a b is = ⊎_elim
    (λ (below : x < y). then-left _ _ (less-cmp x y below))
    (λ (same : (x ≡ y) × IsEarlier a b). then-right _ _ (equal-cmp x y same.0) (earlier-less a b same.1))
    is

pub less-place : (x y : ℕ) (a b : OpId) → is_lt (by_place (x, a) (y, b)) ≡ true → IsLess x a y b
less-place x y a b less = ⊎_elim
    (λ (is : nat_cmp x y ≡ Less). inl (cmp-less x y is))
    (λ (is : (nat_cmp x y ≡ Equal) × (is_lt (by_op a b) ≡ true)). inr (cmp-equal x y is.0, less-earlier a b is.1))
    (then-cases (nat_cmp x y) (by_op a b) less)

-- what is not less than one place and less than a later one of its session
between : (x y s j n : ℕ) (a : OpId) → ¬ IsLess x a y (op s j) → IsLess x a y (op s n) → (x ≡ y) × (a.session ≡ s) × (j ≤ a.index)
between x y s j n a not_less less = ⊎_elim
    (λ (below : x < y). absurd (not_less (inl below)))
    (λ (same : (x ≡ y) × IsEarlier a (op s n)). ⊎_elim
    (λ (below : a.session < s). absurd (not_less (inr (same.0, inl below))))
    (λ (here : (a.session ≡ s) × (a.index < n)). (
      same.0,
      here.0,
      ⊎_elim
          (λ (before : a.index < j). absurd (not_less (inr (same.0, inr (here.0, before)))))
          (λ (from : j ≤ a.index). from)
          (cases_lt a.index j),
    ))
    same.1)
    less

abbrev place_of : Write → ℕ × OpId
place_of w = (w.key, w.op)

module _ (writes : List Write) (x s n : ℕ) where
  -- before the operation n of the session s, among the writes of x
  abbrev pub is_before : Write → Bool
  is_before w = is_lt (by_place (w.key, w.op) (x, op s n))

  pub before-partitioned : AreByVariable writes → IsPartitionedBy is_before writes
  before-partitioned sorted i j d up_to below less =
      less-index (by_place (place_of (get_or writes i d)) (x, op s n)) (by_place (place_of (get_or writes j d)) (x, op s n))
      (searchable_from_sorted by_place_total place_of writes (x, op s n) sorted i j d up_to below) less

  module _ (at : ℕ) (split : IsPartitionPoint (λ w. is_before w ≡ true) (λ w. is_before w ≡ false) writes at) where
    -- such a write stands before the place
    below-at : (j u : ℕ) → j < n → (inside : Contains writes (record { op = op s j; key = x; value = u })) → inside.0 < at
    below-at j u below inside = ⊎_elim
        (λ (before : inside.0 < at). before)
        (λ (above : at ≤ inside.0).
        let w : Write = record { op = op s j; key = x; value = u } in
        let no = rw inside.2 at (split.1 inside.0 w above inside.1) in
        let yes = place-less x x (op s j) (op s n) (inr (refl, inr (refl, below))) in
        let is : false ≡ true = sym no ∙ yes in
        absurd cc)
        (cases_lt inside.0 at)

    -- there is none where the place is the first
    pub end-none : at ≡ 0 → (i : ℕ) → (i < 0) ↔ IsBelowWrite writes x s n i
    end-none first i = (
      (λ none. absurd (omega arith)),
      λ below. let before = below-at below.0 below.1 below.3 below.4 in absurd (omega arith),
    )

    module _ (d : Write) (sorted : AreByVariable writes) (some : at ≡ 0 → ⊥) (bound : at ≤ length writes) where
      abbrev last : Write
      last = get_or writes (at - 1) d

      last-less : IsLess last.key last.op x (op s n)
      last-less = less-place last.key x last.op (op s n) (split.0 (at - 1) d (omega arith) (omega arith))

      -- the write before the place is of the session and not before such a write
      last-from : (j u : ℕ) → j < n → Contains writes (record { op = op s j; key = x; value = u })
          → (last.key ≡ x) × (last.op.session ≡ s) × (j ≤ last.op.index)
      last-from j u below inside =
          let before = below-at j u below inside in
          let w : Write = record { op = op s j; key = x; value = u } in
          let is : get_or writes inside.0 d ≡ w =
          same_Some _ _ (sym (slice_get-get_or writes inside.0 d inside.1) ∙ slice_get-get_or writes inside.0 w inside.1) ∙ inside.2 in
          let far : is_lt (by_place (place_of last) (place_of (get_or writes inside.0 d))) ≡ false =
          sorted_far (λ a b. is_lt (by_place (place_of a) (place_of b))) (ranks_by by_place_total place_of) writes sorted inside.0 (at - 1) d (omega arith) (omega arith) in
          let here : is_lt (by_place (place_of last) (place_of w)) ≡ false =
          subst (λ (b : Write). is_lt (by_place (place_of last) (place_of b)) ≡ false) is far in
          between last.key x s j n last.op
          (λ less. let yes = place-less last.key x last.op (op s j) less in let is : false ≡ true = sym here ∙ yes in absurd cc)
          last-less

      pub last-below : last.key ≡ x → last.op.session ≡ s → last.op.index < n
      last-below same_key same_session = ⊎_elim
          (λ (below : last.key < x). absurd (omega arith))
          (λ (same : (last.key ≡ x) × IsEarlier last.op (op s n)). ⊎_elim
          (λ (below : last.op.session < s). absurd (omega arith))
          (λ (here : (last.op.session ≡ s) × (last.op.index < n)). here.1)
          same.1)
          last-less

      -- where it is of the variable and the session, it is the last of them
      pub end-last : last.key ≡ x → last.op.session ≡ s → (i : ℕ) → (i < last.op.index + 1) ↔ IsBelowWrite writes x s n i
      end-last same_key same_session i =
          let w : Write = record { op = op s last.op.index; key = x; value = last.value } in
          let is : last ≡ w = λ k. record { op = record { session = same_session k; index = last.op.index }; key = same_key k; value = last.value } in
          let read : get_or writes (at - 1) w ≡ last =
          same_Some _ _ (sym (slice_get-get_or writes (at - 1) w (omega arith)) ∙ slice_get-get_or writes (at - 1) d (omega arith)) in (
            (λ below. (last.op.index, last.value, omega arith, last-below same_key same_session, (at - 1, omega arith, read ∙ is))),
            λ below. let from = last-from below.0 below.1 below.3 below.4 in let up_to = below.2 in let index = from.2 in omega arith,
          )

      -- where it is of another variable or session, there is none
      pub end-other : (last.key ≡ x → last.op.session ≡ s → ⊥) → (i : ℕ) → (i < 0) ↔ IsBelowWrite writes x s n i
      end-other other i = (
        (λ none. absurd (omega arith)),
        λ below. let from = last-from below.0 below.1 below.3 below.4 in absurd (other from.0 from.1),
      )
