-- A pass back along an order finds the first operation of a session that has each operation in its past.
use Rattle.std.specs.Prelude.{◌≡◌, ◌≢◌, ◌⊎◌, ◌↔◌, ℕ, ◌+◌, ◌<◌, ◌≤◌, List, length}
use Rattle.std.proofs.Common.{arith, ap, sym, ◌∙◌, subst, inl, inr, ⊎_elim}
use Rattle.std.proofs.lemmas.Bool.{cases_lt, cases_eq}
use Rattle.std.proofs.lemmas.Option.{same_Some, slice_get_within}
use Rattle.model_history.specs.declared.op_id.OpId.{OpId}
use Rattle.model_history.specs.History.{IsOp, Precedes, many_before, number}
use Rattle.order_causal.proofs.Items.{cases-op}
use Rattle.order_memory.specs.Memory.{MemoryHistory}
use Rattle.order_memory.specs.Relations.{CO, IsPast}
use Rattle.judge_memory.specs.Steps.{IsStep, AreOfHistory, StandsAs, IsAfter, IsOrderWith}
use Rattle.judge_columns.specs.Columns.{AreFirsts, IsLowered, AreFirstsFrom}
use Rattle.judge_memory.proofs.Numbers.{number-below, number-once}
use Rattle.judge_memory.proofs.Steps.{step-of_history, first-step, past-step, suffix-past, program-causal, session-cases}
use Rattle.judge_memory.proofs.Orders.{order-straight}

module _ (h : MemoryHistory) (also : OpId → OpId → Type 0) (named : AreOfHistory h also) (order : List ℕ)
    (ordered : IsOrderWith h also order) where
  -- an operation from the place i on stands after it, or is the one there
  after-cases : (i : ℕ) (o b : OpId) → IsOp h o → StandsAs h order i o → IsOp h b → IsAfter h order i b
      → IsAfter h order (i + 1) b ⊎ (b ≡ o)
  after-cases i o b is_op at is_b (k, from, at_k) = ⊎_elim
      (λ (more : i < k). inl (k, omega arith, at_k))
      (λ (up_to : k ≤ i).
      let here : k ≡ i = omega arith in
      let both = sym (subst (λ (j : ℕ). StandsAs h order j b) here at_k) ∙ at in
      inr (number-once h b o is_b is_op (same_Some _ _ both)))
      (cases_lt i k)

  after-wider : (i : ℕ) (b : OpId) → IsAfter h order (i + 1) b → IsAfter h order i b
  after-wider i b (k, from, at_k) = (k, omega arith, at_k)

  -- what an operation steps to stands after it
  step-after : (i : ℕ) (o d : OpId) → IsOp h o → StandsAs h order i o → IsStep h o d → IsAfter h order (i + 1) d
  step-after i o d is_op at step =
      let place = ordered.each d (step-of_history h o d step).1 in
      let before = ordered.after place.0 o d (inl step) place.1 in
      let same = ordered.once before.0 i (number h o) before.2 at in
      let below = before.1 in
      (place.0, omega arith, place.1)

  module _ (t i : ℕ) (firsts made : ℕ → ℕ) (o : OpId) (is_op : IsOp h o) (at : StandsAs h order i o)
      (lowered : IsLowered h t firsts o made) (now : AreFirstsFrom h t order (i + 1) firsts) where
    abbrev m : ℕ
    m = made (number h o)

    -- an operation of the session is in the past of those from it on, in its session
    here-own : o.session ≡ t → (c : OpId) → IsOp h c → c.session ≡ t → (m ≤ number h c) ↔ IsPast h c o
    here-own own c is_c of_t =
        let start = ap (many_before h) (own ∙ sym of_t) in
        let value = lowered.own own in
        let cases = session-cases h o c (own ∙ sym of_t) in (
          (λ up_to. ⊎_elim
              (λ (same : o ≡ c). inl same)
              (λ (apart : Precedes o c ⊎ Precedes c o). ⊎_elim
              (λ (first : Precedes o c). inr (program-causal h o c first is_c))
              (λ (last : Precedes c o). let less = last.1 in absurd (omega arith))
              apart)
              cases),
          λ past. ⊎_elim
              (λ (same : o ≡ c). let here = ap (number h) same in omega arith)
              (λ (apart : Precedes o c ⊎ Precedes c o). ⊎_elim
              (λ (first : Precedes o c). let less = first.1 in omega arith)
              (λ (last : Precedes c o). absurd (order-straight h also named order ordered o (suffix-past h o c o last is_op past)))
              apart)
              cases,
        )

    here-other : o.session ≢ t → (c : OpId) → IsOp h c → c.session ≡ t → (m ≤ number h c) ↔ IsPast h c o
    here-other other c is_c of_t =
        let value = lowered.other other in
        let exact = now.exact o c is_op is_c of_t in (
          (λ up_to. ⊎_elim
              (λ (itself : IsAfter h order (i + 1) o × (o ≡ c)). inl itself.1)
              (λ (some : (d : OpId) × IsStep h o d × IsAfter h order (i + 1) d × IsPast h c d). inr (past-step h o some.0 c some.1 some.3))
              (exact.0 (omega arith))),
          λ past. ⊎_elim
              (λ (same : o ≡ c). absurd (other (ap (λ (q : OpId). q.session) same ∙ of_t)))
              (λ (leads : CO h o c).
              let first = first-step h o c leads in
              let up_to = exact.1 (inr (first.0, first.1, step-after i o first.0 is_op at first.1, first.2)) in
              omega arith)
              past,
        )

    here : (c : OpId) → IsOp h c → c.session ≡ t → (m ≤ number h c) ↔ IsPast h c o
    here c is_c of_t = ⊎_elim
        (λ (own : o.session ≡ t). here-own own c is_c of_t)
        (λ (other : o.session ≢ t). here-other other c is_c of_t)
        (cases_eq o.session t)

    abbrev Tells : OpId → OpId → Type 0
    Tells b c = (IsAfter h order i b × (b ≡ c)) ⊎ ((d : OpId) × IsStep h b d × IsAfter h order i d × IsPast h c d)

    exact-here : (c : OpId) → IsOp h c → c.session ≡ t → (m ≤ number h c) ↔ Tells o c
    exact-here c is_c of_t = (
      (λ up_to. ⊎_elim
          (λ (same : o ≡ c). inl ((i, omega arith, at), same))
          (λ (leads : CO h o c).
          let first = first-step h o c leads in
          inr (first.0, first.1, after-wider i first.0 (step-after i o first.0 is_op at first.1), first.2))
          ((here c is_c of_t).0 up_to)),
      λ tells. (here c is_c of_t).1 (⊎_elim
          (λ (itself : IsAfter h order i o × (o ≡ c)). inl itself.1)
          (λ (some : (d : OpId) × IsStep h o d × IsAfter h order i d × IsPast h c d). inr (past-step h o some.0 c some.1 some.3))
          tells),
    )

    exact-apart : (b c : OpId) → IsOp h b → b ≢ o → IsOp h c → c.session ≡ t → (made (number h b) ≤ number h c) ↔ Tells b c
    exact-apart b c is_b apart is_c of_t =
        let steps = lowered.steps b is_b apart (number h c) in
        let exact = now.exact b c is_b is_c of_t in (
          (λ up_to. ⊎_elim
              (λ (was : firsts (number h b) ≤ number h c). ⊎_elim
              (λ (itself : IsAfter h order (i + 1) b × (b ≡ c)). inl (after-wider i b itself.0, itself.1))
              (λ (some : (d : OpId) × IsStep h b d × IsAfter h order (i + 1) d × IsPast h c d).
              inr (some.0, some.1, after-wider i some.0 some.2, some.3))
              (exact.0 was))
              (λ (through : IsStep h b o × (m ≤ number h c)). inr (o, through.0, (i, omega arith, at), (here c is_c of_t).0 through.1))
              (steps.0 up_to)),
          λ tells. steps.1 (⊎_elim
              (λ (itself : IsAfter h order i b × (b ≡ c)). ⊎_elim
              (λ (later : IsAfter h order (i + 1) b). inl (exact.1 (inl (later, itself.1))))
              (λ (same : b ≡ o). absurd (apart same))
              (after-cases i o b is_op at is_b itself.0))
              (λ (some : (d : OpId) × IsStep h b d × IsAfter h order i d × IsPast h c d). ⊎_elim
              (λ (later : IsAfter h order (i + 1) some.0). inl (exact.1 (inr (some.0, some.1, later, some.3))))
              (λ (same : some.0 ≡ o). inr (subst (IsStep h b) same some.1, (here c is_c of_t).1 (subst (IsPast h c) same some.3)))
              (after-cases i o some.0 is_op at (step-of_history h b some.0 some.1).1 some.2))
              tells),
        )

    to-here : m ≤ many_before h (t + 1)
    to-here = ⊎_elim
        (λ (own : o.session ≡ t).
        let value = lowered.own own in
        let below = number-below h o is_op in
        let end = ap (λ (s : ℕ). many_before h (s + 1)) own in
        omega arith)
        (λ (other : o.session ≢ t). let value = lowered.other other in let high = now.to o is_op in omega arith)
        (cases_eq o.session t)

    -- what steps to the operation at the place i learns of it
    pub firsts-next : AreFirstsFrom h t order i made
    firsts-next = record {
      exact = λ b c is_b is_c of_t. ⊎_elim
          (λ (same : b ≡ o). subst (λ (q : OpId). (made (number h q) ≤ number h c) ↔ Tells q c) (sym same) (exact-here c is_c of_t))
          (λ (apart : b ≢ o). exact-apart b c is_b apart is_c of_t)
          (cases-op b o);
      to = λ b is_b. ⊎_elim
          (λ (same : b ≡ o). let here = ap (λ (q : OpId). made (number h q)) same in let high = to-here in omega arith)
          (λ (apart : b ≢ o). (lowered.steps b is_b apart (many_before h (t + 1))).1 (inl (now.to b is_b)))
          (cases-op b o);
    }

  module _ (t : ℕ) (firsts : ℕ → ℕ) where
    -- after the end of the order there is nothing to learn of
    pub firsts-first : ((o : OpId) → IsOp h o → firsts (number h o) ≡ many_before h (t + 1)) → AreFirstsFrom h t order (length order) firsts
    firsts-first all = record {
      exact = λ o c is_op is_c of_t.
          let value = all o is_op in
          let below = number-below h c is_c in
          let end = ap (λ (s : ℕ). many_before h (s + 1)) of_t in (
            (λ up_to. absurd (omega arith)),
            λ tells. absurd (⊎_elim
                (λ (itself : IsAfter h order (length order) o × (o ≡ c)).
                let inside = slice_get_within order itself.0.0 (number h o) itself.0.2 in
                let past = itself.0.1 in
                omega arith)
                (λ (some : (d : OpId) × IsStep h o d × IsAfter h order (length order) d × IsPast h c d).
                let inside = slice_get_within order some.2.0 (number h some.0) some.2.2 in
                let past = some.2.1 in
                omega arith)
                tells),
          );
      to = λ o is_op. let value = all o is_op in omega arith;
    }

    all-after : (o : OpId) → IsOp h o → IsAfter h order 0 o
    all-after o is_op = let place = ordered.each o is_op in (place.0, omega arith, place.1)

    -- from the first place on all is known
    pub firsts-whole : AreFirstsFrom h t order 0 firsts → AreFirsts h t firsts
    firsts-whole now o c is_op is_c of_t =
        let exact = now.exact o c is_op is_c of_t in (
          (λ up_to. ⊎_elim
              (λ (itself : IsAfter h order 0 o × (o ≡ c)). inl itself.1)
              (λ (some : (d : OpId) × IsStep h o d × IsAfter h order 0 d × IsPast h c d). inr (past-step h o some.0 c some.1 some.3))
              (exact.0 up_to)),
          λ past. exact.1 (⊎_elim
              (λ (same : o ≡ c). inl (all-after o is_op, same))
              (λ (leads : CO h o c).
              let first = first-step h o c leads in
              inr (first.0, first.1, all-after first.0 (step-of_history h o first.0 first.1).1, first.2))
              past),
        )
