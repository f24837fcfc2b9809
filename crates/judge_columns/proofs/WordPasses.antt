-- Passes along an order spread the bits of writes: to the operations after them, or to those before them.
use Rattle.std.specs.Prelude.{◌≡◌, ◌⊎◌, ◌↔◌, ℕ, ◌+◌, ◌<◌, ◌≤◌, List, length}
use Rattle.std.proofs.Common.{arith, sym, ◌∙◌, refl, subst, inl, inr, ⊎_elim}
use Rattle.std.proofs.lemmas.Bool.{cases_lt}
use Rattle.std.proofs.lemmas.Option.{same_Some, slice_get_within}
use Rattle.model_history.specs.declared.op_id.OpId.{OpId}
use Rattle.model_history.specs.History.{IsOp, number}
use Rattle.order_memory.specs.Memory.{MemoryHistory}
use Rattle.order_memory.specs.Relations.{CO, IsPast}
use Rattle.judge_memory.specs.Steps.{IsStep, StandsAs, IsVisited, IsAfter, IsOrderWith}
use Rattle.judge_memory.proofs.Numbers.{number-once}
use Rattle.judge_memory.proofs.Steps.{step-of_history, first-step, last-step, past-step, step-past}
use Rattle.judge_columns.specs.Words.{AreInFutureFrom, AreInPastBefore}

module _ (h : MemoryHistory) (also : OpId → OpId → Type 0) (order : List ℕ) (ordered : IsOrderWith h also order)
    (is : OpId → Type 0) where
  module _ (i : ℕ) (o : OpId) (is_op : IsOp h o) (at : StandsAs h order i o) where
    -- an operation at the place i is o
    here : (b : OpId) → IsOp h b → StandsAs h order i b → b ≡ o
    here b is_b at_b = number-once h b o is_b is_op (same_Some _ _ (sym at_b ∙ at))

    visited-more : (b : OpId) → IsOp h b → IsVisited h order (i + 1) b → IsVisited h order i b ⊎ (b ≡ o)
    visited-more b is_b (k, below, at_k) = ⊎_elim
        (λ (before : k < i). inl (k, before, at_k))
        (λ (end : i ≤ k). let same : k ≡ i = omega arith in inr (here b is_b (subst (λ (j : ℕ). StandsAs h order j b) same at_k)))
        (cases_lt k i)

    visited-still : (b : OpId) → IsVisited h order i b → IsVisited h order (i + 1) b
    visited-still b (k, below, at_k) = (k, omega arith, at_k)

    after-more : (b : OpId) → IsOp h b → IsAfter h order i b → IsAfter h order (i + 1) b ⊎ (b ≡ o)
    after-more b is_b (k, from, at_k) = ⊎_elim
        (λ (more : i < k). inl (k, omega arith, at_k))
        (λ (up_to : k ≤ i). let same : k ≡ i = omega arith in inr (here b is_b (subst (λ (j : ℕ). StandsAs h order j b) same at_k)))
        (cases_lt i k)

    after-still : (b : OpId) → IsAfter h order (i + 1) b → IsAfter h order i b
    after-still b (k, from, at_k) = (k, omega arith, at_k)

    -- what steps to o stands before it, and what it steps to after it
    before : (p : OpId) → IsStep h p o → IsVisited h order i p
    before p step = ordered.after i p o (inl step) at

    after : (d : OpId) → IsStep h o d → IsAfter h order (i + 1) d
    after d step =
        let place = ordered.each d (step-of_history h o d step).1 in
        let first = ordered.after place.0 o d (inl step) place.1 in
        let same = ordered.once first.0 i (number h o) first.2 at in
        let below = first.1 in
        (place.0, omega arith, place.1)

    -- o takes what the operations have that step to it
    module _ (has made : ℕ → Type 0)
        (taken : (n : ℕ) → made n ↔ (has n ⊎ ((n ≡ number h o) × ((p : OpId) × IsStep h p o × has (number h p)))))
        (now : AreInPastBefore h order is i has) where
      past-here : made (number h o) → is o ⊎ ((w : OpId) × is w × CO h w o)
      past-here had = ⊎_elim
          (λ (old : has (number h o)). ⊎_elim
          (λ (itself : is o). inl itself)
          (λ (some : (w : OpId) × is w × IsVisited h order i o × CO h w o). inr (some.0, some.1, some.3))
          ((now o is_op).0 old))
          (λ (new : (number h o ≡ number h o) × ((p : OpId) × IsStep h p o × has (number h p))).
          let p : OpId = new.1.0 in
          let step = new.1.1 in
          inr (⊎_elim
          (λ (itself : is p). (p, itself, step-past h p o p step (inl refl)))
          (λ (some : (w : OpId) × is w × IsVisited h order i p × CO h w p). (some.0, some.1, step-past h p o some.0 step (inr some.3)))
          ((now p (step-of_history h p o step).0).0 new.1.2)))
          ((taken (number h o)).0 had)

      past-made : (w : OpId) → is w → CO h w o → made (number h o)
      past-made w is_w leads =
          let last = last-step h w o leads in
          let p : OpId = last.0 in
          let is_p = (step-of_history h p o last.1).0 in
          (taken (number h o)).1 (inr (
            refl,
            (
              p,
              last.1,
              (now p is_p).1 (⊎_elim
                  (λ (same : w ≡ p). inl (subst is same is_w))
                  (λ (before_p : CO h w p). inr (w, is_w, before p last.1, before_p))
                  last.2),
            ),
          ))

      pub past-next : AreInPastBefore h order is (i + 1) made
      past-next b is_b = (
        (λ had. ⊎_elim
            (λ (old : has (number h b)). ⊎_elim
            (λ (itself : is b). inl itself)
            (λ (some : (w : OpId) × is w × IsVisited h order i b × CO h w b).
            inr (some.0, some.1, visited-still b some.2, some.3))
            ((now b is_b).0 old))
            (λ (new : (number h b ≡ number h o) × ((p : OpId) × IsStep h p o × has (number h p))).
            let same = number-once h b o is_b is_op new.0 in
            ⊎_elim
            (λ (itself : is o). inl (subst is (sym same) itself))
            (λ (some : (w : OpId) × is w × CO h w o).
            inr (some.0, some.1, (i, omega arith, subst (StandsAs h order i) (sym same) at), subst (CO h some.0) (sym same) some.2))
            (past-here ((taken (number h o)).1 (inr (refl, new.1)))))
            ((taken (number h b)).0 had)),
        λ either. ⊎_elim
            (λ (itself : is b). (taken (number h b)).1 (inl ((now b is_b).1 (inl itself))))
            (λ (some : (w : OpId) × is w × IsVisited h order (i + 1) b × CO h w b). ⊎_elim
            (λ (old : IsVisited h order i b).
            (taken (number h b)).1 (inl ((now b is_b).1 (inr (some.0, some.1, old, some.3)))))
            (λ (same : b ≡ o).
            subst (λ (q : OpId). made (number h q)) (sym same) (past-made some.0 some.1 (subst (CO h some.0) same some.3)))
            (visited-more b is_b some.2))
            either,
      )

    -- o gives what it has to the operations that step to it
    module _ (has made : ℕ → Type 0)
        (given : (n : ℕ) → made n ↔ (has n ⊎ ((b : OpId) × IsStep h b o × (n ≡ number h b) × has (number h o))))
        (now : AreInFutureFrom h order is (i + 1) has) where
      -- o itself has it exactly where it is in the past of such a write
      future-here : has (number h o) ↔ ((w : OpId) × is w × IsPast h w o)
      future-here = (
        (λ had. ⊎_elim
            (λ (itself : is o). (o, itself, inl refl))
            (λ (some : (w d : OpId) × is w × IsStep h o d × IsAfter h order (i + 1) d × IsPast h w d).
            (some.0, some.2, inr (past-step h o some.1 some.0 some.3 some.5)))
            ((now o is_op).0 had)),
        λ some. (now o is_op).1 (⊎_elim
            (λ (same : o ≡ some.0). inl (subst is (sym same) some.1))
            (λ (leads : CO h o some.0).
            let first = first-step h o some.0 leads in
            inr (some.0, first.0, some.1, first.1, after first.0 first.1, first.2))
            some.2),
      )

      pub future-next : AreInFutureFrom h order is i made
      future-next b is_b = (
        (λ had. ⊎_elim
            (λ (old : has (number h b)). ⊎_elim
            (λ (itself : is b). inl itself)
            (λ (some : (w d : OpId) × is w × IsStep h b d × IsAfter h order (i + 1) d × IsPast h w d).
            inr (some.0, some.1, some.2, some.3, after-still some.1 some.4, some.5))
            ((now b is_b).0 old))
            (λ (new : (c : OpId) × IsStep h c o × (number h b ≡ number h c) × has (number h o)).
            let same = number-once h b new.0 is_b (step-of_history h new.0 o new.1).0 new.2 in
            let found = future-here.0 new.3 in
            inr (found.0, o, found.1, subst (λ (q : OpId). IsStep h q o) (sym same) new.1, (i, omega arith, at), found.2))
            ((given (number h b)).0 had)),
        λ either. (given (number h b)).1 (⊎_elim
            (λ (itself : is b). inl ((now b is_b).1 (inl itself)))
            (λ (some : (w d : OpId) × is w × IsStep h b d × IsAfter h order i d × IsPast h w d). ⊎_elim
            (λ (more : IsAfter h order (i + 1) some.1). inl ((now b is_b).1 (inr (some.0, some.1, some.2, some.3, more, some.5))))
            (λ (same : some.1 ≡ o). inr (
              b,
              subst (IsStep h b) same some.3,
              refl,
              future-here.1 (some.0, some.2, subst (IsPast h some.0) same some.5),
            ))
            (after-more some.1 (step-of_history h b some.1 some.3).1 some.4))
            either),
      )

  -- before the first place only such writes have it, and at the end all after them
  pub past-first : (has : ℕ → Type 0) → ((o : OpId) → IsOp h o → has (number h o) ↔ is o) → AreInPastBefore h order is 0 has
  past-first has marked o is_op = (
    (λ had. inl ((marked o is_op).0 had)),
    λ either. (marked o is_op).1 (⊎_elim
        (λ (itself : is o). itself)
        (λ (some : (w : OpId) × is w × IsVisited h order 0 o × CO h w o). let below = some.2.1 in absurd (omega arith))
        either),
  )

  pub past-whole : (i : ℕ) → length order ≤ i → (has : ℕ → Type 0) → AreInPastBefore h order is i has
      → (o : OpId) → IsOp h o → has (number h o) ↔ ((w : OpId) × is w × IsPast h o w)
  past-whole i whole has now o is_op = (
    (λ had. ⊎_elim
        (λ (itself : is o). (o, itself, inl refl))
        (λ (some : (w : OpId) × is w × IsVisited h order i o × CO h w o). (some.0, some.1, inr some.3))
        ((now o is_op).0 had)),
    λ some. (now o is_op).1 (⊎_elim
        (λ (same : some.0 ≡ o). inl (subst is same some.1))
        (λ (leads : CO h some.0 o).
        let place = ordered.each o is_op in
        let inside = slice_get_within order place.0 (number h o) place.1 in
        inr (some.0, some.1, (place.0, omega arith, place.1), leads))
        some.2),
  )

  -- after the last place only such writes have it, and at the end all before them
  pub future-first : (i : ℕ) → length order ≤ i → (has : ℕ → Type 0) → ((o : OpId) → IsOp h o → has (number h o) ↔ is o)
      → AreInFutureFrom h order is i has
  future-first i whole has marked o is_op = (
    (λ had. inl ((marked o is_op).0 had)),
    λ either. (marked o is_op).1 (⊎_elim
        (λ (itself : is o). itself)
        (λ (some : (w d : OpId) × is w × IsStep h o d × IsAfter h order i d × IsPast h w d).
        let place = some.4 in
        let inside = slice_get_within order place.0 (number h some.1) place.2 in
        let from = place.1 in
        absurd (omega arith))
        either),
  )

  pub future-whole : (has : ℕ → Type 0) → AreInFutureFrom h order is 0 has
      → (o : OpId) → IsOp h o → has (number h o) ↔ ((w : OpId) × is w × IsPast h w o)
  future-whole has now o is_op = (
    (λ had. ⊎_elim
        (λ (itself : is o). (o, itself, inl refl))
        (λ (some : (w d : OpId) × is w × IsStep h o d × IsAfter h order 0 d × IsPast h w d).
        (some.0, some.2, inr (past-step h o some.1 some.0 some.3 some.5)))
        ((now o is_op).0 had)),
    λ some. (now o is_op).1 (⊎_elim
        (λ (same : o ≡ some.0). inl (subst is (sym same) some.1))
        (λ (leads : CO h o some.0).
        let first = first-step h o some.0 leads in
        let place = ordered.each first.0 (step-of_history h o first.0 first.1).1 in
        inr (some.0, first.0, some.1, first.1, (place.0, omega arith, place.1), first.2))
        some.2),
  )

  -- where nothing steps to such a write, only such writes are in the past of one
  pub future-alone : ((w p : OpId) → is w → ¬ IsStep h p w) → (has : ℕ → Type 0)
      → ((o : OpId) → IsOp h o → has (number h o) ↔ is o) → (o : OpId) → IsOp h o
      → has (number h o) ↔ ((w : OpId) × is w × IsPast h w o)
  future-alone alone has marked o is_op = (
    (λ had. (o, (marked o is_op).0 had, inl refl)),
    λ some. (marked o is_op).1 (⊎_elim
        (λ (same : o ≡ some.0). subst is (sym same) some.1)
        (λ (leads : CO h o some.0).
        let last = last-step h o some.0 leads in
        absurd (alone some.0 last.0 some.1 last.1))
        some.2),
  )
