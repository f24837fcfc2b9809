-- A pass along an order finds where the past of each operation ends in a session.
use Rattle.std.specs.Prelude.{◌≡◌, ◌≢◌, ◌⊎◌, ◌↔◌, ℕ, ◌+◌, ◌<◌, ◌≤◌, List, length, Some, slice_get}
use Rattle.std.proofs.Common.{arith, ap, sym, ◌∙◌, subst, inl, inr, ⊎_elim}
use Rattle.std.proofs.lemmas.Bool.{cases_lt, cases_eq}
use Rattle.std.proofs.lemmas.Option.{same_Some, slice_get_within}
use Rattle.model_history.specs.declared.op_id.OpId.{OpId}
use Rattle.model_history.specs.History.{IsOp, Precedes, many_before, number}
use Rattle.order_memory.specs.Memory.{MemoryHistory}
use Rattle.order_memory.specs.Relations.{CO, IsPast}
use Rattle.judge_memory.specs.Steps.{IsStep, AreOfHistory, StandsAs, IsVisited, IsOrderWith}
use Rattle.judge_columns.specs.Columns.{ArePastEnds, AreWithinSession, IsNextEnd, ArePastEndsBefore}
use Rattle.judge_memory.proofs.Numbers.{many-rises, number-below, number-once}
use Rattle.judge_memory.proofs.Steps.{step-of_history, last-step, step-past, prefix-past, program-causal, session-cases}
use Rattle.judge_memory.proofs.Orders.{order-straight}

module _ (h : MemoryHistory) (also : OpId → OpId → Type 0) (named : AreOfHistory h also) (order : List ℕ)
    (ordered : IsOrderWith h also order) where
  -- an operation up to the place i stands before it, or is the one there
  visited-cases : (i : ℕ) (o b : OpId) → IsOp h o → StandsAs h order i o → IsOp h b → IsVisited h order (i + 1) b
      → (IsVisited h order i b × (number h b ≢ number h o)) ⊎ (b ≡ o)
  visited-cases i o b is_op at is_b (k, below, at_k) = ⊎_elim
      (λ (before : k < i). inl (
        (k, before, at_k),
        λ same. (let here = ordered.once k i (number h o) (subst (λ (n : ℕ). slice_get order k ≡ Some n) same at_k) at in omega arith),
      ))
      (λ (end : i ≤ k).
      let here : k ≡ i = omega arith in
      let both = sym (subst (λ (j : ℕ). StandsAs h order j b) here at_k) ∙ at in
      inr (number-once h b o is_b is_op (same_Some _ _ both)))
      (cases_lt k i)

  module _ (t i : ℕ) (ends made : ℕ → ℕ) (o : OpId) (is_op : IsOp h o) (at : StandsAs h order i o)
      (forward : IsNextEnd h t ends o (made (number h o))) (others : (n : ℕ) → n ≢ number h o → made n ≡ ends n)
      (now : ArePastEndsBefore h t order i ends) where
    abbrev m : ℕ
    m = made (number h o)

    before : (p : OpId) → IsStep h p o → IsOp h p × IsVisited h order i p
    before p step = ((step-of_history h p o step).0, ordered.after i p o (inl step) at)

    -- the past of an operation of the session ends with it
    exact-own : o.session ≡ t → (c : OpId) → IsOp h c → c.session ≡ t → (number h c < m) ↔ IsPast h o c
    exact-own own c is_c of_t =
        let start = ap (many_before h) (own ∙ sym of_t) in
        let value = forward.own own in
        let cases = session-cases h c o (of_t ∙ sym own) in (
          (λ below. ⊎_elim
              (λ (same : c ≡ o). inl same)
              (λ (apart : Precedes c o ⊎ Precedes o c). ⊎_elim
              (λ (first : Precedes c o). inr (program-causal h c o first is_op))
              (λ (last : Precedes o c). let more = last.1 in absurd (omega arith))
              apart)
              cases),
          λ past. ⊎_elim
              (λ (same : c ≡ o). let here = ap (number h) same in omega arith)
              (λ (apart : Precedes c o ⊎ Precedes o c). ⊎_elim
              (λ (first : Precedes c o). let less = first.1 in omega arith)
              (λ (last : Precedes o c). absurd (order-straight h also named order ordered o (prefix-past h o o c last is_c past)))
              apart)
              cases,
        )

    -- the past of another operation is that of what steps to it
    exact-other : o.session ≢ t → (c : OpId) → IsOp h c → c.session ≡ t → (number h c < m) ↔ IsPast h o c
    exact-other other c is_c of_t =
        let start = ap (many_before h) of_t in (
          (λ below. ⊎_elim
              (λ (least : m ≡ many_before h t). absurd (omega arith))
              (λ (some : (p : OpId) × IsStep h p o × (m ≡ ends (number h p))).
              let p = before some.0 some.1 in
              let same = some.2 in
              inr (step-past h some.0 o c some.1 ((now.exact some.0 c p.0 p.1 is_c of_t).0 (omega arith))))
              (forward.one other)),
          λ past. ⊎_elim
              (λ (same : c ≡ o). absurd (other (sym (ap (λ (q : OpId). q.session) same) ∙ of_t)))
              (λ (leads : CO h c o).
              let last = last-step h c o leads in
              let p = before last.0 last.1 in
              let below = (now.exact last.0 c p.0 p.1 is_c of_t).1 last.2 in
              let most = forward.most other last.0 last.1 in
              omega arith)
              past,
        )

    exact-here : (c : OpId) → IsOp h c → c.session ≡ t → (number h c < m) ↔ IsPast h o c
    exact-here c is_c of_t = ⊎_elim
        (λ (own : o.session ≡ t). exact-own own c is_c of_t)
        (λ (other : o.session ≢ t). exact-other other c is_c of_t)
        (cases_eq o.session t)

    range-here : (many_before h t ≤ m) × (m ≤ many_before h (t + 1))
    range-here = ⊎_elim
        (λ (own : o.session ≡ t).
        let value = forward.own own in
        let below = number-below h o is_op in
        let start = ap (many_before h) own in
        let end = ap (λ (s : ℕ). many_before h (s + 1)) own in
        (omega arith, omega arith))
        (λ (other : o.session ≢ t). ⊎_elim
        (λ (least : m ≡ many_before h t). let rises = many-rises h t (t + 1) (omega arith) in (omega arith, omega arith))
        (λ (some : (p : OpId) × IsStep h p o × (m ≡ ends (number h p))).
        let p = before some.0 some.1 in
        let same = some.2 in
        let low = now.from some.0 p.0 p.1 in
        let high = now.to some.0 p.0 p.1 in
        (omega arith, omega arith))
        (forward.one other))
        (cases_eq o.session t)

    -- the end for the operation at the place i is found
    pub column-next : ArePastEndsBefore h t order (i + 1) made
    column-next = record {
      exact = λ b c is_b visited is_c of_t. ⊎_elim
          (λ (before : IsVisited h order i b × (number h b ≢ number h o)).
          let same = others (number h b) before.1 in
          subst (λ (n : ℕ). (number h c < n) ↔ IsPast h b c) (sym same) (now.exact b c is_b before.0 is_c of_t))
          (λ (same : b ≡ o). subst (λ (q : OpId). (number h c < made (number h q)) ↔ IsPast h q c) (sym same) (exact-here c is_c of_t))
          (visited-cases i o b is_op at is_b visited);
      from = λ b is_b visited. ⊎_elim
          (λ (before : IsVisited h order i b × (number h b ≢ number h o)).
          let same = others (number h b) before.1 in let low = now.from b is_b before.0 in omega arith)
          (λ (same : b ≡ o). let here = ap (λ (q : OpId). made (number h q)) same in let low = range-here.0 in omega arith)
          (visited-cases i o b is_op at is_b visited);
      to = λ b is_b visited. ⊎_elim
          (λ (before : IsVisited h order i b × (number h b ≢ number h o)).
          let same = others (number h b) before.1 in let high = now.to b is_b before.0 in omega arith)
          (λ (same : b ≡ o). let here = ap (λ (q : OpId). made (number h q)) same in let high = range-here.1 in omega arith)
          (visited-cases i o b is_op at is_b visited);
    }

  module _ (t : ℕ) (ends : ℕ → ℕ) where
    -- before the first place no operation is visited
    pub column-first : ArePastEndsBefore h t order 0 ends
    column-first = record {
      exact = λ o c is_op visited is_c of_t. let below = visited.1 in absurd (omega arith);
      from = λ o is_op visited. let below = visited.1 in absurd (omega arith);
      to = λ o is_op visited. let below = visited.1 in absurd (omega arith);
    }

    module _ (i : ℕ) (whole : length order ≤ i) (now : ArePastEndsBefore h t order i ends) where
      all-visited : (o : OpId) → IsOp h o → IsVisited h order i o
      all-visited o is_op =
          let place = ordered.each o is_op in
          let inside = slice_get_within order place.0 (number h o) place.1 in
          (place.0, omega arith, place.1)

      -- at the end of the order all are
      pub column-whole : ArePastEnds h t ends
      column-whole o c is_op is_c of_t = now.exact o c is_op (all-visited o is_op) is_c of_t

      pub column-within : AreWithinSession h t ends
      column-within o is_op = (now.from o is_op (all-visited o is_op), now.to o is_op (all-visited o is_op))
