-- The visit of an operation finds the end for it, and lowers the firsts for what steps to it.
use Rattle.std.specs.Prelude.{◌≡◌, ◌≢◌, ◌⊎◌, ◌↔◌, ℕ, ◌≤◌}
use Rattle.std.proofs.Common.{arith, ap, sym, ◌∙◌, subst, inl, inr, ⊎_elim}
use Rattle.std.proofs.lemmas.Bool.{cases_eq}
use Rattle.model_history.specs.declared.op_id.OpId.{OpId}
use Rattle.model_history.specs.History.{IsOp, many_before, number}
use Rattle.order_causal.proofs.OrdersLaws.{same_op}
use Rattle.order_memory.specs.Memory.{MemoryHistory, Writes, IsDifferentiated}
use Rattle.order_memory.specs.Relations.{ReadsFrom}
use Rattle.order_memory.proofs.MemoryLaws.{same_read, write-or_read}
use Rattle.judge_memory.specs.Steps.{IsNext, IsStep}
use Rattle.judge_columns.specs.Columns.{IsNextEnd, IsLowered}
use Rattle.judge_columns.specs.Visits.{IsLesser, IsLoweredAt, IsGreater, IsRaisedBy, IsLoweredBy, IsForwardVisit, IsBackwardVisit}
use Rattle.judge_memory.proofs.Numbers.{number-once}
use Rattle.judge_memory.proofs.Steps.{step-of_history}

-- the lesser of two numbers is at most n where one of them is
lesser-cases : (a b m n : ℕ) → IsLesser a b m → (m ≤ n) ↔ ((a ≤ n) ⊎ (b ≤ n))
lesser-cases a b m n is = (
  (λ up_to. ⊎_elim
      (λ (same : m ≡ a). inl (omega arith))
      (λ (same : m ≡ b). inr (omega arith))
      is.one),
  λ either. ⊎_elim
      (λ (up_to : a ≤ n). let less = is.first in omega arith)
      (λ (up_to : b ≤ n). let less = is.second in omega arith)
      either,
)

module _ (h : MemoryHistory) (o : OpId) (related : OpId → OpId → Type 0) (of_history : (p : OpId) → related p o → IsOp h p)
    (unique : (p q : OpId) → related p o → related q o → p ≡ q) where
  module _ (ends : ℕ → ℕ) (a m : ℕ) (raised : IsRaisedBy h o related ends a m) where
    raised-first : a ≤ m
    raised-first = ⊎_elim
        (λ (none : ((p : OpId) → ¬ related p o) × (m ≡ a)). let same = none.1 in omega arith)
        (λ (some : (p : OpId) × related p o × IsGreater a (ends (number h p)) m). some.2.first)
        raised

    raised-most : (p : OpId) → related p o → ends (number h p) ≤ m
    raised-most p is = ⊎_elim
        (λ (none : ((q : OpId) → ¬ related q o) × (m ≡ a)). absurd (none.0 p is))
        (λ (some : (q : OpId) × related q o × IsGreater a (ends (number h q)) m).
        subst (λ (q : OpId). ends (number h q) ≤ m) (unique some.0 p some.1 is) some.2.second)
        raised

    raised-one : (m ≡ a) ⊎ ((p : OpId) × related p o × (m ≡ ends (number h p)))
    raised-one = ⊎_elim
        (λ (none : ((p : OpId) → ¬ related p o) × (m ≡ a)). inl none.1)
        (λ (some : (p : OpId) × related p o × IsGreater a (ends (number h p)) m). ⊎_elim
        (λ (kept : m ≡ a). inl kept)
        (λ (new : m ≡ ends (number h some.0)). inr (some.0, some.1, new))
        some.2.one)
        raised

  module _ (firsts made : ℕ → ℕ) (m : ℕ) (lowered : IsLoweredBy h o related firsts made m) where
    lowered-told : (b : OpId) → IsOp h b → (n : ℕ) → (made (number h b) ≤ n) ↔ ((firsts (number h b) ≤ n) ⊎ (related b o × (m ≤ n)))
    lowered-told b is_b n = ⊎_elim
        (λ (none : ((p : OpId) → ¬ related p o) × ((k : ℕ) → made k ≡ firsts k)).
        let kept = none.1 (number h b) in (
          (λ up_to. inl (omega arith)),
          λ either. ⊎_elim
              (λ (up_to : firsts (number h b) ≤ n). omega arith)
              (λ (is : related b o × (m ≤ n)). absurd (none.0 b is.0))
              either,
        ))
        (λ (some : (p : OpId) × related p o × IsLoweredAt firsts made (number h p) m). ⊎_elim
        (λ (here : number h b ≡ number h some.0).
        let cases = lesser-cases (firsts (number h b)) m (made (number h b)) n
        (subst (λ (k : ℕ). IsLesser (firsts k) m (made k)) (sym here) some.2.here) in (
          (λ up_to. ⊎_elim
              (λ (was : firsts (number h b) ≤ n). inl was)
              (λ (less : m ≤ n). inr (
                subst (λ (q : OpId). related q o) (sym (number-once h b some.0 is_b (of_history some.0 some.1) here)) some.1,
                less,
              ))
              (cases.0 up_to)),
          λ either. cases.1 (⊎_elim
              (λ (up_to : firsts (number h b) ≤ n). inl up_to)
              (λ (is : related b o × (m ≤ n)). inr is.1)
              either),
        ))
        (λ (other : number h b ≢ number h some.0).
        let kept = some.2.others (number h b) other in (
          (λ up_to. inl (omega arith)),
          λ either. ⊎_elim
              (λ (up_to : firsts (number h b) ≤ n). omega arith)
              (λ (is : related b o × (m ≤ n)). absurd (other (ap (number h) (unique b some.0 is.0 some.1))))
              either,
        ))
        (cases_eq (number h b) (number h some.0)))
        lowered

    lowered-kept : IsOp h o → ((p : OpId) → related p o → p ≢ o) → made (number h o) ≡ firsts (number h o)
    lowered-kept is_op apart = ⊎_elim
        (λ (none : ((p : OpId) → ¬ related p o) × ((k : ℕ) → made k ≡ firsts k)). none.1 (number h o))
        (λ (some : (p : OpId) × related p o × IsLoweredAt firsts made (number h p) m).
        some.2.others (number h o)
        (λ same. apart some.0 some.1 (number-once h some.0 o (of_history some.0 some.1) is_op (sym same))))
        lowered

module _ (h : MemoryHistory) where
  -- there is one operation before another in its session, and one source of it where values are distinct
  pub one-next : (u w b : OpId) → IsNext h u b → IsNext h w b → u ≡ w
  one-next u w b first second = let one = first.1 in let two = second.1 in same_op u w (first.0 ∙ sym second.0) (omega arith)

  pub one-source : IsDifferentiated h → (u w r : OpId) → ReadsFrom h u r → ReadsFrom h w r → u ≡ w
  one-source distinct u w r other from =
      let same = same_read h r other.0 other.1 from.0 from.1 other.3 from.3 in
      let wrote : Writes h u from.0 from.1 = rw (same.0, same.1) at (other.2) in
      distinct.once u w from.0 from.1 wrote from.2

  module _ (distinct : IsDifferentiated h) (t : ℕ) (o : OpId) (is_op : IsOp h o) where
    next-op : (p : OpId) → IsNext h p o → IsOp h p
    next-op p next = (step-of_history h p o (inl next)).0

    source-op : (p : OpId) → ReadsFrom h p o → IsOp h p
    source-op p from = (step-of_history h p o (inr from)).0

    next-once : (p q : OpId) → IsNext h p o → IsNext h q o → p ≡ q
    next-once p q = one-next p q o

    source-once : (p q : OpId) → ReadsFrom h p o → ReadsFrom h q o → p ≡ q
    source-once p q = one-source distinct p q o

    -- a visit forward finds the end for the operation
    pub forward-made : (ends : ℕ → ℕ) (before read m : ℕ) → IsForwardVisit h t o ends before read m → IsNextEnd h t ends o m
    forward-made ends before read m visit =
        let up = raised-first h o (ReadsFrom h) source-op source-once ends before read visit.source in
        record {
          own = visit.own;
          most = λ other p step.
              let same = visit.other other in
              ⊎_elim
              (λ (next : IsNext h p o).
              let less = raised-most h o (IsNext h) next-op next-once ends (many_before h t) before visit.previous p next in
              omega arith)
              (λ (from : ReadsFrom h p o).
              let less = raised-most h o (ReadsFrom h) source-op source-once ends before read visit.source p from in
              omega arith)
              step;
          one = λ other. ⊎_elim
              (λ (kept : read ≡ before). ⊎_elim
              (λ (least : before ≡ many_before h t). inl (visit.other other ∙ kept ∙ least))
              (λ (some : (p : OpId) × IsNext h p o × (before ≡ ends (number h p))).
              inr (some.0, inl some.1, visit.other other ∙ kept ∙ some.2))
              (raised-one h o (IsNext h) next-op next-once ends (many_before h t) before visit.previous))
              (λ (some : (p : OpId) × ReadsFrom h p o × (read ≡ ends (number h p))). inr (some.0, inr some.1, visit.other other ∙ some.2))
              (raised-one h o (ReadsFrom h) source-op source-once ends before read visit.source);
        }

    module _ (firsts own before read : ℕ → ℕ) (visit : IsBackwardVisit h t o firsts own before read) where
      abbrev m : ℕ
      m = own (number h o)

      -- what the operation itself has does not change
      own-kept : read (number h o) ≡ m
      own-kept =
          lowered-kept h o (ReadsFrom h) source-op source-once before read m visit.source is_op
          (λ p (x, v, wrote, reads, other). write-or_read h p o x v x v wrote reads)
          ∙ lowered-kept h o (IsNext h) next-op next-once own before m visit.previous is_op
          (λ p next same. (let more = next.1 in let index = ap (λ (q : OpId). q.index) same in omega arith))

      -- a visit back lowers the firsts for what steps to the operation
      pub lowered-made : IsLowered h t firsts o read
      lowered-made = record {
        own = λ same. own-kept ∙ visit.of_session same;
        other = λ apart. own-kept ∙ visit.of_other apart;
        steps = λ b is_b apart n.
            let first = lowered-told h o (IsNext h) next-op next-once own before m visit.previous b is_b n in
            let second = lowered-told h o (ReadsFrom h) source-op source-once before read m visit.source b is_b n in
            let as_before = visit.others (number h b) (λ equal. apart (number-once h b o is_b is_op equal)) in
            let place = own-kept in (
              (λ up_to. ⊎_elim
                  (λ (was : before (number h b) ≤ n). ⊎_elim
                  (λ (old : own (number h b) ≤ n). inl (omega arith))
                  (λ (next : IsNext h b o × (m ≤ n)). let less = next.1 in inr (inl next.0, omega arith))
                  (first.0 was))
                  (λ (from : ReadsFrom h b o × (m ≤ n)). let less = from.1 in inr (inr from.0, omega arith))
                  (second.0 up_to)),
              λ either. second.1 (⊎_elim
                  (λ (old : firsts (number h b) ≤ n). inl (first.1 (inl (omega arith))))
                  (λ (step : IsStep h b o × (read (number h o) ≤ n)).
                  let less : m ≤ n = (let up_to = step.1 in omega arith) in
                  ⊎_elim
                  (λ (next : IsNext h b o). inl (first.1 (inr (next, less))))
                  (λ (from : ReadsFrom h b o). inr (from, less))
                  step.0)
                  either),
            );
      }
