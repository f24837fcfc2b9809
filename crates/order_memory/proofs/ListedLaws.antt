-- Lists of items that belong to operations, one operation after another.
use Rattle.std.specs.Prelude.{◌≡◌, ℕ, ◌+◌, ◌<◌, ◌≤◌, List, [], ◌∷◌, ◌++◌, Contains, length}
use Rattle.std.proofs.Common.{inl, inr, ⊎_elim, arith, subst, eq-or-lt_of_le}
use Rattle.std.proofs.lemmas.List.Elements.{Contains-append_left, Contains-push, Contains-push_cases}
use Rattle.model_history.specs.declared.op_id.OpId.{OpId}
use Rattle.model_history.specs.History.{HistoryValue, IsOp, session}
use Rattle.order_memory.proofs.EarlierLaws.{earlier_cases}
use Rattle.order_memory.specs.Steps.Listed.{ListsBefore}
use Rattle.order_causal.specs.Orders.{op, IsEarlier}
use Rattle.order_causal.proofs.OrdersLaws.{session-of_history}

module _ {X : Type 0} (op_of : X → OpId) (belongs : X → Type 0) where
  -- one item more, the only one of its operation
  pub listed-item : (s i : ℕ) (x : X) (items : List X) → belongs x → ((y : X) → belongs y → op_of y ≡ op s i → x ≡ y)
      → ListsBefore op_of belongs (op s i) items → ListsBefore op_of belongs (op s (i + 1)) (items ++ x ∷ [])
  listed-item s i x items this only before = record {
    each = λ y is_item earlier. ⊎_elim
        (λ (old : IsEarlier (op_of y) (op s i)). Contains-append_left items _ _ (before.each y is_item old))
        (λ (here : op_of y ≡ op s i). subst (λ (z : X). Contains (items ++ x ∷ []) z) (only y is_item here) (Contains-push items x))
        (earlier_cases (op_of y) s i earlier);
    no_other = λ y inside. ⊎_elim
        (λ (old : Contains items y). before.no_other y old)
        (λ (new : x ≡ y). subst belongs new this)
        (Contains-push_cases items x y inside);
  }

  -- one operation more that has none
  pub listed-none : (s i : ℕ) (items : List X) → ((y : X) → belongs y → op_of y ≡ op s i → ⊥)
      → ListsBefore op_of belongs (op s i) items → ListsBefore op_of belongs (op s (i + 1)) items
  listed-none s i items none before = record {
    each = λ y is_item earlier. ⊎_elim
        (λ (old : IsEarlier (op_of y) (op s i)). before.each y is_item old)
        (λ (here : op_of y ≡ op s i). absurd (none y is_item here))
        (earlier_cases (op_of y) s i earlier);
    no_other = before.no_other;
  }

  module _ {S C R : Type 0} (h : HistoryValue S C R) (of_history : (y : X) → belongs y → IsOp h (op_of y)) where
    -- the end of a session
    pub listed-session : (s i : ℕ) (items : List X) → length (session h s) ≤ i
        → ListsBefore op_of belongs (op s i) items → ListsBefore op_of belongs (op (s + 1) 0) items
    listed-session s i items ended before = record {
      each = λ y is_item earlier. before.each y is_item
          (⊎_elim
          (λ (below : (op_of y).session < s + 1). ⊎_elim
          (λ (same : (op_of y).session ≡ s). inr (
            same,
            let is_op = subst (λ (t : ℕ). (op_of y).index < length (session h t)) same (of_history y is_item) in omega arith,
          ))
          (λ (earlier_session : (op_of y).session < s). inl earlier_session)
          (let up_to : (op_of y).session ≤ s = omega arith in eq-or-lt_of_le up_to))
          (λ (none : ((op_of y).session ≡ s + 1) × ((op_of y).index < 0)). let below = none.1 in absurd (omega arith))
          earlier);
      no_other = before.no_other;
    }

    -- the end of the last session
    pub listed-end : (s : ℕ) (items : List X) → length h.1 ≤ s → ListsBefore op_of belongs (op s 0) items → (y : X) → belongs y → Contains items y
    listed-end s items ended before y is_item =
        before.each y is_item (inl (let below = session-of_history h (op_of y) (of_history y is_item) in omega arith))
