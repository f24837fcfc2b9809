-- What a raise of the counts of neighbours keeps.
use Rattle.std.specs.Prelude.{◌≡◌, ◌≢◌, ◌⊎◌, ℕ, ◌+◌, ◌-◌, ◌<◌, ◌≤◌}
use Rattle.std.proofs.Common.{arith, sym, subst, ◌∙◌, ⊎_elim, inl, inr}
use Rattle.std.proofs.lemmas.Bool.{cases_eq, cases_lt}
use Rattle.model_history.specs.declared.op_id.OpId.{OpId}
use Rattle.order_memory.specs.declared.growing_order.Raised.{Raised}
use Rattle.order_causal.specs.Orders.{op}
use Rattle.order_memory.specs.Steps.GrowthSteps.{IsRange, IsPending, IsCovered, IsFresh, IsFollowed, IsMonotone}
use Rattle.order_causal.specs.Vectors.{Counts, count}
use Rattle.order_causal.proofs.OrdersLaws.{same_op}

module _ (v w : Counts) (t i e u c : ℕ) (range : IsRange v w t i e u c) where
  -- how a count changes
  abbrev pub IsChange : OpId → ℕ → Type 0
  IsChange p s = (p.session ≡ t) × (i ≤ p.index) × (p.index < e) × (s ≡ u) × (count v p s < c) × (count w p s ≡ c)

  -- no count falls
  pub range-rises : (p : OpId) (s : ℕ) → count v p s ≤ count w p s
  range-rises p s = ⊎_elim
      (λ (same : count w p s ≡ count v p s). omega arith)
      (λ (change : IsChange p s). let less = change.4 in let now = change.5 in omega arith)
      (range.each p s)

  -- what doesn't belong to the range is as it was
  pub range-outside : (p : OpId) (s : ℕ) → (IsChange p s → ⊥) → count w p s ≡ count v p s
  range-outside p s no_change = ⊎_elim
      (λ (same : count w p s ≡ count v p s). same)
      (λ (change : IsChange p s). absurd (no_change change))
      (range.each p s)

  -- in the range it is the new count
  pub range-here : (p : OpId) → p.session ≡ t → i ≤ p.index → p.index < e → count w p u ≡ c
  range-here p same from below = subst (λ (s : ℕ). count w (op s p.index) u ≡ c) (sym same) (range.reached p.index from below)

  -- counts that don't fall along the sessions still don't
  pub range-monotone : (past : ℕ → ℕ) → IsMonotone v past → (e < past t → c ≤ count v (op t e) u) → IsMonotone w past
  range-monotone past monotone stopped s j z below = ⊎_elim
      (λ (same : count w (op s j) z ≡ count v (op s j) z).
      let before = monotone s j z below in
      let rises = range-rises (op s (j + 1)) z in
      omega arith)
      (λ (change : IsChange (op s j) z).
      let value = change.5 in
      ⊎_elim
      (λ (inside : j + 1 < e).
      let from = change.1 in
      let next : count w (op s (j + 1)) u ≡ c = range-here (op s (j + 1)) change.0 (omega arith) inside in
      let there : count w (op s (j + 1)) z ≡ c = subst (λ (k : ℕ). count w (op s (j + 1)) k ≡ c) (sym change.3) next in
      omega arith)
      (λ (outside : e ≤ j + 1).
      let within = change.2 in
      let last : e ≡ j + 1 = omega arith in
      let there : c ≤ count v (op t (j + 1)) u =
      subst (λ (k : ℕ). c ≤ count v (op t k) u) last (stopped (let there : j + 1 < past t = subst (λ (k : ℕ). j + 1 < past k) change.0 below in omega arith)) in
      let moved : c ≤ count v (op s (j + 1)) u = subst (λ (k : ℕ). c ≤ count v (op k (j + 1)) u) (sym change.0) there in
      let here : c ≤ count v (op s (j + 1)) z = subst (λ (k : ℕ). c ≤ count v (op s (j + 1)) k) (sym change.3) moved in
      let rises = range-rises (op s (j + 1)) z in
      omega arith)
      (cases_lt (j + 1) e))
      (range.each (op s j) z)

  -- what was raised is followed, or waits
  pub range-followed : (raised : Raised) → raised.op.session ≡ t → raised.op.index ≡ i → raised.session ≡ u
      → (waits after : Raised → Type 0) → ((x : Raised) → waits x → after x) → after raised
      → (b : OpId) (y : ℕ) → IsFollowed waits v b y → IsFollowed after w b y
  range-followed raised of_session of_index of_counts waits after kept here b y followed fresh n z ends = ⊎_elim
      (λ (same : count w b y ≡ count v b y).
      let before : IsFresh waits v b y = λ j is. let rises = range-rises (op b.session j) y in let less = fresh j is in omega arith in
      let old = followed before n z (sym same ∙ ends) in
      ⊎_elim
      (λ (as_before : count w (op y n) z ≡ count v (op y n) z). ⊎_elim
      (λ (counts : count v (op y n) z ≤ count v b z). inl (let rises = range-rises b z in omega arith))
      (λ (waiting : IsPending waits b y ⊎ IsCovered waits v (op y n) z). ⊎_elim
      (λ (is : IsPending waits b y). inr (inl (is.0, kept is.0 is.1, is.2, is.3)))
      (λ (is : IsCovered waits v (op y n) z).
      let rises = range-rises is.0.op z in
      let most = is.5 in
      inr (inr (is.0, kept is.0 is.1, is.2, is.3, is.4, omega arith)))
      waiting)
      old)
      (λ (change : IsChange (op y n) z).
      let value = change.5 in
      let first : count w raised.op u ≡ c = range-here raised.op of_session (omega arith) (let from = change.1 in let below = change.2 in omega arith) in
      let first_z : count w raised.op z ≡ c = subst (λ (k : ℕ). count w raised.op k ≡ c) (sym change.3) first in
      inr (inr (raised, here, of_counts ∙ sym change.3, of_session ∙ sym change.0, (let from = change.1 in omega arith), omega arith)))
      (range.each (op y n) z))
      (λ (change : IsChange b y). ⊎_elim
      (λ (first : i ≡ b.index). inr (inl (
        raised,
        here,
        same_op raised.op b (of_session ∙ sym change.0) (of_index ∙ first),
        of_counts ∙ sym change.3,
      )))
      (λ (later : i ≢ b.index).
      let from = change.1 in
      let below = change.2 in
      let m : ℕ = b.index - 1 in
      let less = fresh m (omega arith) in
      let before : count w (op b.session m) u ≡ c = range-here (op b.session m) change.0 (omega arith) (omega arith) in
      let before_y : count w (op b.session m) y ≡ c = subst (λ (k : ℕ). count w (op b.session m) k ≡ c) (sym change.3) before in
      let value = change.5 in
      absurd (omega arith))
      (cases_eq i b.index))
      (range.each b y)

  -- a count that changed is not fresh, or its raise waits
  pub range-pending : (raised : Raised) → raised.op.session ≡ t → raised.op.index ≡ i → raised.session ≡ u
      → (waits after : Raised → Type 0) → ((x : Raised) → waits x → after x) → after raised → (n : ℕ) (b : OpId) (y : ℕ)
      → (count v b y ≡ n) ⊎ (IsFresh waits v b y → IsPending waits b y) → (count w b y ≡ n) ⊎ (IsFresh after w b y → IsPending after b y)
  range-pending raised of_session of_index of_counts waits after kept here n b y before = ⊎_elim
      (λ (same : count w b y ≡ count v b y). ⊎_elim
      (λ (unchanged : count v b y ≡ n). inl (same ∙ unchanged))
      (λ (pending : IsFresh waits v b y → IsPending waits b y). inr (λ fresh.
      let fresh_before : IsFresh waits v b y = λ j is. let rises = range-rises (op b.session j) y in let less = fresh j is in omega arith in
      let is = pending fresh_before in
      (is.0, kept is.0 is.1, is.2, is.3)))
      before)
      (λ (change : IsChange b y). inr (λ fresh. ⊎_elim
      (λ (first : i ≡ b.index). (
        raised,
        here,
        same_op raised.op b (of_session ∙ sym change.0) (of_index ∙ first),
        of_counts ∙ sym change.3,
      ))
      (λ (later : i ≢ b.index).
      let from = change.1 in
      let below = change.2 in
      let m : ℕ = b.index - 1 in
      let less = fresh m (omega arith) in
      let first_count : count w (op b.session m) u ≡ c = range-here (op b.session m) change.0 (omega arith) (omega arith) in
      let before_y : count w (op b.session m) y ≡ c = subst (λ (k : ℕ). count w (op b.session m) k ≡ c) (sym change.3) first_count in
      let value = change.5 in
      absurd (omega arith))
      (cases_eq i b.index)))
      (range.each b y)
