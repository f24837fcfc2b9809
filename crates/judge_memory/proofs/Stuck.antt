-- Where each session that has a next operation waits, something leads to itself.
use Rattle.std.specs.Prelude.{◌≡◌, ◌≢◌, ℕ, ◌-◌, ◌<◌, ◌≤◌, length}
use Rattle.std.proofs.Common.{arith, refl, subst, ⊎_elim}
use Rattle.std.proofs.lemmas.Bool.{cases_eq}
use Rattle.model_history.specs.declared.op_id.OpId.{OpId}
use Rattle.model_history.specs.History.{IsOp, many_before, number}
use Rattle.order_causal.specs.Orders.{op, Leads}
use Rattle.order_causal.proofs.OrdersLaws.{same_op, session-of_history}
use Rattle.order_causal.proofs.PathsLaws.{leads-edge, leads-leads, leads-last}
use Rattle.order_causal.proofs.WaitingCycles.{waiting-cycle}
use Rattle.order_memory.specs.Memory.{MemoryHistory}
use Rattle.judge_memory.specs.Steps.{IsStepWith, AreOfHistory}
use Rattle.judge_memory.proofs.Steps.{program-steps, steps-with, step_with-of_history}
use Rattle.judge_memory.specs.Placements.{IsNextToPlace, IsWaiting}

module _ (h : MemoryHistory) (also : OpId → OpId → Type 0) (named : AreOfHistory h also) (next : ℕ → ℕ)
    (from_start : (t : ℕ) → t < length h.1 → many_before h t ≤ next t)
    (waiting : (p : OpId) → IsNextToPlace h next p → IsWaiting h also next p) where
  -- the operation of the session t from which on nothing is placed
  abbrev node : ℕ → OpId
  node t = op t (next t - many_before h t)

  abbrev IsOpen : ℕ → Type 0
  IsOpen t = IsNextToPlace h next (node t)

  waits : (s : ℕ) → IsOpen s → (t : ℕ) × IsOpen t × Leads (IsStepWith h also) (node t) (node s)
  waits s is_open =
      let cause = waiting (node s) is_open in
      let a : OpId = cause.0 in
      let is_op : IsOp h a = (step_with-of_history h also named a (node s) cause.1).0 in
      let unplaced : ¬ (number h a < next a.session) = cause.2 in
      let start = from_start a.session (session-of_history h a is_op) in (
        a.session,
        (omega arith, omega arith),
        ⊎_elim
            (λ (here : a.index ≡ next a.session - many_before h a.session).
            leads-edge (IsStepWith h also) (node a.session) (node s)
            (subst (λ (q : OpId). IsStepWith h also q (node s)) (same_op a (node a.session) refl here) cause.1))
            (λ (apart : a.index ≢ next a.session - many_before h a.session).
            leads-last (IsStepWith h also) (node a.session) a (node s)
            (steps-with h also (node a.session) a (program-steps h (node a.session) a (refl, omega arith) is_op)) cause.1)
            (cases_eq a.index (next a.session - many_before h a.session)),
      )

  pub stuck-leads : (p : OpId) → IsNextToPlace h next p → (a : OpId) × Leads (IsStepWith h also) a a
  stuck-leads p is_next =
      let is = is_next.1 in
      let here : p.index ≡ next p.session - many_before h p.session = omega arith in
      waiting-cycle IsOpen node (Leads (IsStepWith h also)) (length h.1) (λ s open_s. session-of_history h (node s) open_s.0) waits
      (leads-leads (IsStepWith h also)) p.session (subst (IsNextToPlace h next) (same_op p (node p.session) refl here) is_next)
