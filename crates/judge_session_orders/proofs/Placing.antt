-- One operation fewer is left.
use Rattle.std.specs.Prelude.{◌≡◌, ◌≢◌, ℕ, ◌-◌, ◌<◌, ◌≤◌}
use Rattle.std.proofs.Common.{arith, sym, ap, subst, ⊎_elim, ◌∙◌}
use Rattle.std.proofs.lemmas.Bool.{cases_eq, cases_lt}
use Rattle.model_history.specs.declared.op_id.OpId.{OpId}
use Rattle.model_history.specs.History.{IsOp}
use Rattle.order_causal.proofs.OrdersLaws.{same_op}
use Rattle.order_memory.specs.Memory.{MemoryHistory}
use Rattle.order_memory.specs.Relations.{HB}
use Rattle.order_memory.proofs.HappenedBeforeLaws.{program_past-parts}
use Rattle.judge_session_orders.specs.Backward.{IsLeft, IsOpen, last_left, AreOthersBlocked, IsBackward, IsPlacing}
use Rattle.judge_session_orders.proofs.Stuck.{left-before}

module _ (t : ℕ) (left after : ℕ → ℕ) (placing : IsPlacing t left after) where
  -- what is left after it was left before it, and is another operation
  pub still-left : (a : OpId) → IsLeft after a → IsLeft left a × (a ≢ last_left left t)
  still-left a is_left = ⊎_elim
      (λ (same : a.session ≡ t).
      let below : a.index < after t = subst (λ (u : ℕ). a.index < after u) same is_left in
      let one = placing.placed in (
        subst (λ (u : ℕ). a.index < left u) (sym same) (omega arith),
        λ is_last. (let here : a.index ≡ left t - 1 = ap (λ (b : OpId). b.index) is_last in omega arith),
      ))
      (λ (other : a.session ≢ t).
      let one = placing.others a.session other in (omega arith, λ is_last. other (ap (λ (b : OpId). b.session) is_last)))
      (cases_eq a.session t)

  -- only the operation itself is left no more
  pub just-placed : (a : OpId) → IsLeft left a → ¬ IsLeft after a → a ≡ last_left left t
  just-placed a is_left placed = ⊎_elim
      (λ (same : a.session ≡ t).
      let below : a.index < left t = subst (λ (u : ℕ). a.index < left u) same is_left in
      let above : ¬ (a.index < after t) = subst (λ (u : ℕ). ¬ (a.index < after u)) same placed in
      let one = placing.placed in
      same_op a (last_left left t) same (omega arith))
      (λ (other : a.session ≢ t). let one = placing.others a.session other in absurd (placed (omega arith)))
      (cases_eq a.session t)

  pub left-still : (a : OpId) → IsLeft left a → a ≢ last_left left t → IsLeft after a
  left-still a is_left apart = ⊎_elim
      (λ (below : a.index < after a.session). below)
      (λ (above : after a.session ≤ a.index). absurd (apart (just-placed a is_left (λ below. omega arith))))
      (cases_lt a.index (after a.session))

  pub was-open : IsOpen left t
  was-open = let one = placing.placed in omega arith

  module _ (h : MemoryHistory) (o : OpId) (is_op : IsOp h o) (now : IsBackward h o left) where
    -- the clauses of IsBackward are kept, if the session of o has its turn only where the others are blocked
    pub placed-backward : (t ≡ o.session → AreOthersBlocked h o left) → IsBackward h o after
    placed-backward last_of_all = record {
      within = λ a is_left. now.within a (still-left a is_left).0;
      before = λ acyclic a w r is_left placed from.
          let still = still-left a is_left in
          ⊎_elim
          (λ (was_left : r.index < left r.session).
          let here = just-placed r was_left placed.1 in
          let own : t ≡ o.session = sym (ap (λ (b : OpId). b.session) here) ∙ (program_past-parts o r placed.0).0 in
          let same : r ≡ last_left left o.session = subst (λ (u : ℕ). r ≡ last_left left u) own here in
          let apart : a ≢ last_left left o.session = subst (λ (u : ℕ). a ≢ last_left left u) own still.1 in
          subst (λ (b : OpId). HB h o a b) (sym same)
          (left-before h o is_op left now acyclic (last_of_all own) (subst (IsOpen left) own was-open) a still.0 apart))
          (λ (was_placed : left r.session ≤ r.index). now.before acyclic a w r still.0 (placed.0, λ below. omega arith) from)
          (cases_lt r.index (left r.session));
    }
