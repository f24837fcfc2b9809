-- A finished order shows that the happened-before relation has no cycle.
use Rattle.std.specs.Prelude.{◌≡◌, ◌≢◌, ℕ, ◌<◌, Bool, IsTrue, List, Some, length}
use Rattle.std.proofs.Common.{false, arith, sym, ap, ◌∙◌, inl, inr, ⊎_elim, get_or, ltb, lt-ltb, ltb-true}
use Rattle.std.proofs.lemmas.Option.{same_Some, slice_get_within, slice_get-get_or}
use Rattle.model_history.specs.declared.op_id.OpId.{OpId}
use Rattle.order_causal.specs.Orders.{Order, StandsAt}
use Rattle.order_causal.proofs.Searches.{IsDecided, least, op-decided}
use Rattle.order_memory.specs.Memory.{MemoryHistory}
use Rattle.order_memory.specs.Relations.{IsPast, IsClosed}
use Rattle.judge_session_orders.specs.Backward.{IsOpen, IsAcyclic}
use Rattle.judge_session_orders.specs.BackwardOrder.{IsBackwardOrder}

module _ (ops : List OpId) where
  -- a place of an operation in a list, or that it has none
  abbrev Place : OpId → Type 0
  Place a = (k : ℕ) × StandsAt ops k a

  place-decided : (a : OpId) → IsDecided (Place a)
  place-decided a = ⊎_elim
      (λ (found : (k : ℕ) × (k < length ops) × (get_or ops k a ≡ a) × ((j : ℕ) → j < k → get_or ops j a ≢ a)).
      inl (found.0, slice_get-get_or ops found.0 a found.1 ∙ ap (λ (b : OpId). Some b) found.2))
      (λ (none : (k : ℕ) → k < length ops → get_or ops k a ≢ a). inr (λ place.
      let within = slice_get_within ops place.0 a place.1 in
      none place.0 within (same_Some _ _ (sym (slice_get-get_or ops place.0 a within) ∙ place.1))))
      (least (λ k. get_or ops k a ≡ a) (λ k. op-decided (get_or ops k a) a) (length ops))

  -- the order of the places, as a test
  is_before : (a b : OpId) → IsDecided (Place a) → IsDecided (Place b) → Bool
  is_before a b (inl i) (inl k) = ltb i.0 k.0
  is_before a b (inl i) (inr none) = false
  is_before a b (inr none) place = false

  stands_before : Order
  stands_before a b = is_before a b (place-decided a) (place-decided b)

  module _ (once : (j k : ℕ) (a : OpId) → StandsAt ops j a → StandsAt ops k a → j ≡ k) where
    is_before-from : (a b : OpId) (first : IsDecided (Place a)) (second : IsDecided (Place b)) (i k : ℕ)
        → StandsAt ops i a → StandsAt ops k b → i < k → IsTrue (is_before a b first second)
    unfolding is_before
    is_before-from a b (inl p) (inl q) i k at_i at_k below =
        let here = once p.0 i a p.1 at_i in
        let there = once q.0 k b q.1 at_k in
        lt-ltb p.0 q.0 (omega arith)
    is_before-from a b (inl p) (inr none) i k at_i at_k below = absurd (none (k, at_k))
    is_before-from a b (inr none) place i k at_i at_k below = absurd (none (i, at_i))

    stands-from : (a b : OpId) (i k : ℕ) → StandsAt ops i a → StandsAt ops k b → i < k → IsTrue (stands_before a b)
    unfolding stands_before
    stands-from a b = is_before-from a b (place-decided a) (place-decided b)

  is_before-places : (a b : OpId) (first : IsDecided (Place a)) (second : IsDecided (Place b)) → IsTrue (is_before a b first second)
      → (i k : ℕ) × StandsAt ops i a × StandsAt ops k b × (i < k)
  unfolding is_before
  is_before-places a b (inl p) (inl q) before = (p.0, q.0, p.1, q.1, ltb-true p.0 q.0 before)
  is_before-places a b (inl p) (inr none) before = absurd cc
  is_before-places a b (inr none) place before = absurd cc

  stands-places : (a b : OpId) → IsTrue (stands_before a b) → (i k : ℕ) × StandsAt ops i a × StandsAt ops k b × (i < k)
  unfolding stands_before
  stands-places a b = is_before-places a b (place-decided a) (place-decided b)

module _ (h : MemoryHistory) (o : OpId) (left : ℕ → ℕ) (ops : List OpId) (order : IsBackwardOrder h o left ops)
    (ended : (t : ℕ) → ¬ IsOpen left t) where
  place : (a : OpId) → IsPast h o a → (k : ℕ) × StandsAt ops k a
  place a in_past = order.each a in_past (λ is_left. ended a.session (omega arith))

  closed : IsClosed h o (stands_before ops)
  closed = record {
    causal = λ a b in_a in_b before.
        let first = place a in_a in
        let second = place b in_b in
        stands-from ops order.once a b first.0 second.0 first.1 second.1 (order.ordered first.0 second.0 a b first.1 second.1 before);
    transitive = λ a b c one two.
        let first = stands-places ops a b one in
        let second = stands-places ops b c two in
        let same = order.once first.1 second.0 b first.3 second.2 in
        let below = first.4 in
        let next = second.4 in
        stands-from ops order.once a c first.0 second.1 first.2 second.3 (omega arith);
    read = λ a b r rivals from kept before.
        let places = stands-places ops a r before in
        let source = order.read places.0 places.1 a b r places.2 places.3 places.4 kept from rivals in
        stands-from ops order.once a b places.0 source.0 places.2 source.2 source.1;
  }

  -- it is closed, so HB is within it, and no place is before itself
  pub ended-acyclic : IsAcyclic h o
  ended-acyclic a happened =
      let places = stands-places ops a a (happened (stands_before ops) closed) in
      let same = order.once places.0 places.1 a places.2 places.3 in
      let below = places.4 in
      omega arith
