-- The causal order by steps.
use Rattle.std.specs.Prelude.{◌≡◌, ◌⊎◌, ℕ, ◌+◌, ◌-◌, ◌<◌, ◌≤◌, length}
use Rattle.std.proofs.Common.{zero, suc, arith, refl, ap, sym, subst, inl, inr, ⊎_elim}
use Rattle.std.proofs.lemmas.Bool.{cases_lt, cases_eq}
use Rattle.model_history.specs.declared.op_id.OpId.{OpId}
use Rattle.model_history.specs.History.{IsOp, Precedes, session}
use Rattle.order_causal.specs.Orders.{op, Leads}
use Rattle.order_causal.proofs.OrdersLaws.{same_op}
use Rattle.order_causal.proofs.PathsLaws.{leads-edge, leads-first, leads-leads, leads-last, leads-within, leads-wider, last-edge}
use Rattle.order_memory.specs.Memory.{MemoryHistory}
use Rattle.order_memory.specs.Relations.{ReadsFrom, IsEdge, CO, IsPast}
use Rattle.order_memory.proofs.MemoryLaws.{write-of_history, read-of_history}
use Rattle.judge_memory.specs.Steps.{IsStep, IsStepWith, AreOfHistory}

-- the first edge of a path
pub first-edge : (related : OpId → OpId → Type 0) (a c : OpId) → Leads related a c
    → (d : OpId) × related a d × ((d ≡ c) ⊎ Leads related d c)
first-edge related = leads-within related (λ x z. (d : OpId) × related x d × ((d ≡ z) ⊎ Leads related d z))
    (λ x y edge. (y, edge, inl refl))
    (λ x y z before after.
    let from_y = leads-first related y after.0 z after.1 in
    let rest : Leads related y z = ⊎_elim
    (λ (same : after.0 ≡ z). leads-edge related y z (subst (related y) same after.1))
    (λ (leads : Leads related after.0 z). leads-first related y after.0 z after.1 leads)
    after.2 in (
      before.0,
      before.1,
      inr (⊎_elim
          (λ (same : before.0 ≡ y). subst (λ (q : OpId). Leads related q z) (sym same) rest)
          (λ (leads : Leads related before.0 y). leads-leads related before.0 y z leads rest)
          before.2),
    ))

module _ (h : MemoryHistory) where
  pub step-edge : (a b : OpId) → IsStep h a b → IsEdge h a b
  step-edge a b (inl (same, more, is_op)) = inl ((same, omega arith), is_op)
  step-edge a b (inr from) = inr from

  pub step-of_history : (a b : OpId) → IsStep h a b → IsOp h a × IsOp h b
  step-of_history a b (inl (same, more, is_op)) =
      let size = ap (λ (s : ℕ). length (session h s)) same in (omega arith, is_op)
  step-of_history a b (inr (x, v, wrote, reads, other)) = (write-of_history h a x v wrote, read-of_history h b x v reads)

  -- an operation leads to those behind it in program order
  program-more : (n : ℕ) (a b : OpId) → a.session ≡ b.session → b.index ≡ a.index + 1 + n → IsOp h b → Leads (IsStep h) a b
  program-more zero a b same more is_op = leads-edge (IsStep h) a b (inl (same, omega arith, is_op))
  program-more (suc n) a b same more is_op =
      let p : OpId = op b.session (b.index - 1) in
      leads-last (IsStep h) a p b (program-more n a p same (omega arith) (omega arith)) (inl (refl, omega arith, is_op))

  pub program-steps : (a b : OpId) → Precedes a b → IsOp h b → Leads (IsStep h) a b
  program-steps a b (same, below) is_op = program-more (b.index - a.index - 1) a b same (omega arith) is_op

  -- the causal order leads by steps
  pub steps-from_causal : (a b : OpId) → CO h a b → Leads (IsStep h) a b
  steps-from_causal = leads-within (IsEdge h) (Leads (IsStep h)) (λ a b edge. ⊎_elim
      (λ (before : Precedes a b × IsOp h b). program-steps a b before.0 before.1)
      (λ (from : ReadsFrom h a b). leads-edge (IsStep h) a b (inr from))
      edge)
      (leads-leads (IsStep h))

  pub causal-from_steps : (a b : OpId) → Leads (IsStep h) a b → CO h a b
  causal-from_steps = leads-wider (IsStep h) (IsEdge h) step-edge

  pub step-causal : (a b : OpId) → IsStep h a b → CO h a b
  step-causal a b step = leads-edge (IsEdge h) a b (step-edge a b step)

  pub program-causal : (a b : OpId) → Precedes a b → IsOp h b → CO h a b
  program-causal a b before is_op = leads-edge (IsEdge h) a b (inl (before, is_op))

  -- what is before an operation is in the past of one that steps to it
  pub last-step : (a o : OpId) → CO h a o → (p : OpId) × IsStep h p o × IsPast h p a
  last-step a o before =
      let last = last-edge (IsStep h) a o (steps-from_causal a o before) in (
        last.0,
        last.2,
        ⊎_elim
            (λ (same : a ≡ last.0). inl same)
            (λ (leads : Leads (IsStep h) a last.0). inr (causal-from_steps a last.0 leads))
            last.1,
      )

  -- what is behind an operation has in its past one that it steps to
  pub first-step : (a o : OpId) → CO h a o → (d : OpId) × IsStep h a d × IsPast h o d
  first-step a o before =
      let first = first-edge (IsStep h) a o (steps-from_causal a o before) in (
        first.0,
        first.1,
        ⊎_elim
            (λ (same : first.0 ≡ o). inl same)
            (λ (leads : Leads (IsStep h) first.0 o). inr (causal-from_steps first.0 o leads))
            first.2,
      )

  pub step-past : (p o c : OpId) → IsStep h p o → IsPast h p c → CO h c o
  step-past p o c step (inl same) = subst (λ (q : OpId). CO h q o) (sym same) (step-causal p o step)
  step-past p o c step (inr before) = leads-leads (IsEdge h) c p o before (step-causal p o step)

  pub past-step : (o d c : OpId) → IsStep h o d → IsPast h c d → CO h o c
  past-step o d c step (inl same) = subst (CO h o) same (step-causal o d step)
  past-step o d c step (inr before) = leads-leads (IsEdge h) o d c (step-causal o d step) before

  -- of a session the first operations are in the past of an operation, and the last ones have it in theirs
  pub prefix-past : (o b c : OpId) → Precedes b c → IsOp h c → IsPast h o c → CO h b o
  prefix-past o b c before is_op (inl same) = subst (CO h b) same (program-causal b c before is_op)
  prefix-past o b c before is_op (inr leads) = leads-leads (IsEdge h) b c o (program-causal b c before is_op) leads

  pub suffix-past : (o b c : OpId) → Precedes b c → IsOp h c → IsPast h b o → CO h o c
  suffix-past o b c before is_op (inl same) = subst (λ (q : OpId). CO h q c) (sym same) (program-causal b c before is_op)
  suffix-past o b c before is_op (inr leads) = leads-leads (IsEdge h) o b c leads (program-causal b c before is_op)

  -- two operations of a session are one, or one is before the other
  pub session-cases : (a b : OpId) → a.session ≡ b.session → (a ≡ b) ⊎ (Precedes a b ⊎ Precedes b a)
  session-cases a b same = ⊎_elim
      (λ (below : a.index < b.index). inr (inl (same, below)))
      (λ (up_to : b.index ≤ a.index). ⊎_elim
      (λ (one : a.index ≡ b.index). inl (same_op a b same one))
      (λ (apart : a.index ≡ b.index → ⊥). inr (inr (sym same, omega arith)))
      (cases_eq a.index b.index))
      (cases_lt a.index b.index)

module _ (h : MemoryHistory) (also : OpId → OpId → Type 0) where
  pub step_with-of_history : AreOfHistory h also → (a b : OpId) → IsStepWith h also a b → IsOp h a × IsOp h b
  step_with-of_history named a b (inl step) = step-of_history h a b step
  step_with-of_history named a b (inr edge) = named a b edge

  pub steps-with : (a b : OpId) → Leads (IsStep h) a b → Leads (IsStepWith h also) a b
  steps-with = leads-wider (IsStep h) (IsStepWith h also) (λ a b step. inl step)
