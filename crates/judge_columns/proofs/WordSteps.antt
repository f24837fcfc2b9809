-- What an operation takes from those that step to it, and gives to them.
use Rattle.std.specs.Prelude.{◌≡◌, ◌⊎◌, ◌↔◌, ℕ, ◌+◌, ◌<◌, List, Option, None, Some, MatchOption, length, slice_get, slice_index_or}
use Rattle.std.proofs.Common.{ap, sym, ◌∙◌, subst, inl, inr, ⊎_elim}
use Rattle.std.proofs.lemmas.Option.{slice_get-get_or}
use Rattle.model_history.specs.declared.op_id.OpId.{OpId}
use Rattle.model_history.specs.History.{IsOp, number}
use Rattle.order_memory.specs.Memory.{MemoryHistory, IsDifferentiated}
use Rattle.order_memory.specs.Relations.{ReadsFrom}
use Rattle.judge_memory.specs.Steps.{IsNext, IsOrderWith, IsStep, StandsAs}
use Rattle.judge_memory.specs.Parts.{IsNumberOf}
use Rattle.judge_columns.specs.Words.{AreInFutureFrom, AreInPastBefore, HasBit, HasBitAt, IsAdded, IsGiven, IsMarked, IsTaken}
use Rattle.judge_columns.proofs.Visits.{one-next, one-source}
use Rattle.judge_columns.proofs.WordPasses.{future-next, past-next}

-- nothing steps to an operation with nothing before it in its session and no source
pub no-step : (h : MemoryHistory) (o : OpId) → IsNumberOf h (IsNext h) o None → IsNumberOf h (ReadsFrom h) o None
    → (p : OpId) → ¬ IsStep h p o
no-step h o before source p step =
    ⊎_elim (λ (next : IsNext h p o). before p next) (λ (from : ReadsFrom h p o). source p from) step

-- what holds at the number of the operation that is related to o
by-related : (h : MemoryHistory) (o : OpId) (related : OpId → OpId → Type 0) → ((p q : OpId) → related p o → related q o → p ≡ q)
    → (P : ℕ → Type 0) (e : Option ℕ) → IsNumberOf h related o e → MatchOption e ⊥ P ↔ ((p : OpId) × related p o × P (number h p))
by-related h o related unique P None none = ((λ bad. absurd bad), λ some. absurd (none some.0 some.1))
by-related h o related unique P (Some n) (p, is_op, is, at) = (
  (λ holds. (p, is, subst P (sym at) holds)),
  λ some. subst P (ap (number h) (unique some.0 p some.1 is) ∙ at) some.2,
)

module _ (h : MemoryHistory) (distinct : IsDifferentiated h) (o : OpId) (before source : Option ℕ) (at_before : IsNumberOf h (IsNext h) o before)
    (at_source : IsNumberOf h (ReadsFrom h) o source) where
  by-before : (P : ℕ → Type 0) → MatchOption before ⊥ P ↔ ((p : OpId) × IsNext h p o × P (number h p))
  by-before P = by-related h o (IsNext h) (λ p q. one-next h p q o) P before at_before

  by-source : (P : ℕ → Type 0) → MatchOption source ⊥ P ↔ ((p : OpId) × ReadsFrom h p o × P (number h p))
  by-source P = by-related h o (ReadsFrom h) (λ p q. one-source h distinct p q o) P source at_source

  by-step : (P : ℕ → Type 0) → (MatchOption before ⊥ P ⊎ MatchOption source ⊥ P) ↔ ((p : OpId) × IsStep h p o × P (number h p))
  by-step P = (
    (λ either. ⊎_elim
        (λ (one : MatchOption before ⊥ P). let p = (by-before P).0 one in (p.0, inl p.1, p.2))
        (λ (one : MatchOption source ⊥ P). let p = (by-source P).0 one in (p.0, inr p.1, p.2))
        either),
    λ some. ⊎_elim
        (λ (next : IsNext h some.0 o). inl ((by-before P).1 (some.0, next, some.2)))
        (λ (from : ReadsFrom h some.0 o). inr ((by-source P).1 (some.0, from, some.2)))
        some.1,
  )

  pub step-taken : (words made : List ℕ) (first second both : ℕ)
      → ((k : ℕ) → HasBit first k ↔ MatchOption before ⊥ (λ n. HasBitAt words n k))
      → ((k : ℕ) → HasBit second k ↔ MatchOption source ⊥ (λ n. HasBitAt words n k))
      → ((k : ℕ) → HasBit both k ↔ (HasBit first k ⊎ HasBit second k)) → IsAdded words (Some (number h o)) both made
      → IsTaken h o words made
  step-taken words made first second both is_first is_second is_both added n k = (
    (λ had. ⊎_elim
        (λ (old : HasBitAt words n k). inl old)
        (λ (new : (n ≡ number h o) × HasBit both k). inr (
          new.0,
          (by-step (λ m. HasBitAt words m k)).0 (⊎_elim
              (λ (one : HasBit first k). inl ((is_first k).0 one))
              (λ (one : HasBit second k). inr ((is_second k).0 one))
              ((is_both k).0 new.1)),
        ))
        ((added n k).0 had)),
    λ either. (added n k).1 (⊎_elim
        (λ (old : HasBitAt words n k). inl old)
        (λ (new : (n ≡ number h o) × ((p : OpId) × IsStep h p o × HasBitAt words (number h p) k)).
        inr (
          new.0,
          (is_both k).1 (⊎_elim
              (λ (one : MatchOption before ⊥ (λ m. HasBitAt words m k)). inl ((is_first k).1 one))
              (λ (one : MatchOption source ⊥ (λ m. HasBitAt words m k)). inr ((is_second k).1 one))
              ((by-step (λ m. HasBitAt words m k)).1 new.1)),
        ))
        either),
  )

  pub step-given : (words between made : List ℕ) (word : ℕ) → ((k : ℕ) → HasBit word k ↔ HasBitAt words (number h o) k)
      → IsAdded words before word between → IsAdded between source word made → IsGiven h o words made
  step-given words between made word is first second n k =
      let P : ℕ → Type 0 = λ m. (n ≡ m) × HasBit word k in (
        (λ had. ⊎_elim
            (λ (was : HasBitAt between n k). ⊎_elim
            (λ (old : HasBitAt words n k). inl old)
            (λ (new : MatchOption before ⊥ P). let p = (by-step P).0 (inl new) in inr (p.0, p.1, p.2.0, (is k).0 p.2.1))
            ((first n k).0 was))
            (λ (new : MatchOption source ⊥ P). let p = (by-step P).0 (inr new) in inr (p.0, p.1, p.2.0, (is k).0 p.2.1))
            ((second n k).0 had)),
        λ either. (second n k).1 (⊎_elim
            (λ (old : HasBitAt words n k). inl ((first n k).1 (inl old)))
            (λ (new : (b : OpId) × IsStep h b o × (n ≡ number h b) × HasBitAt words (number h o) k). ⊎_elim
            (λ (one : MatchOption before ⊥ P). inl ((first n k).1 (inr one)))
            (λ (one : MatchOption source ⊥ P). inr one)
            ((by-step P).1 (new.0, new.1, (new.2, (is k).1 new.3))))
            either),
      )

-- one place more of an order
module _ (h : MemoryHistory) (also : OpId → OpId → Type 0) (order : List ℕ) (ordered : IsOrderWith h also order) (i : ℕ)
    (inside : i < length order) where
  abbrev n : ℕ
  n = slice_index_or order i 0

  placed : (o : OpId) × IsOp h o × (number h o ≡ n) × StandsAs h order i o
  placed =
      let at = slice_get-get_or order i 0 inside in
      let o = ordered.no_other i n at in
      (o.0, o.1, o.2, at ∙ ap (λ (m : ℕ). Some m) (sym o.2))

  pub place-within : (m : ℕ) → ((o : OpId) → IsOp h o → number h o < m) → n < m
  place-within m below = subst (λ (k : ℕ). k < m) placed.2 (below placed.0 placed.1)

  module _ (writes : List ℕ) (from : ℕ) (words made : List ℕ) where
    pub past-taken : ((o : OpId) → IsOp h o → number h o ≡ n → IsTaken h o words made)
        → ((k : ℕ) → k < 128 → AreInPastBefore h order (IsMarked h writes from k) i (λ m. HasBitAt words m k))
        → (k : ℕ) → k < 128 → AreInPastBefore h order (IsMarked h writes from k) (i + 1) (λ m. HasBitAt made m k)
    past-taken taken now k below =
        past-next h also order ordered (IsMarked h writes from k) i placed.0 placed.1 placed.3 (λ m. HasBitAt words m k)
        (λ m. HasBitAt made m k) (λ m. taken placed.0 placed.1 placed.2 m k) (now k below)

    pub future-given : ((o : OpId) → IsOp h o → number h o ≡ n → IsGiven h o words made)
        → ((k : ℕ) → k < 128 → AreInFutureFrom h order (IsMarked h writes from k) (i + 1) (λ m. HasBitAt words m k))
        → (k : ℕ) → k < 128 → AreInFutureFrom h order (IsMarked h writes from k) i (λ m. HasBitAt made m k)
    future-given given now k below =
        future-next h also order ordered (IsMarked h writes from k) i placed.0 placed.1 placed.3 (λ m. HasBitAt words m k)
        (λ m. HasBitAt made m k) (λ m. given placed.0 placed.1 placed.2 m k) (now k below)

-- only the writes themselves are marked at first
pub marked-first : (h : MemoryHistory) (writes : List ℕ) (from : ℕ) (words : List ℕ)
    → ((n k : ℕ) → k < 128 → HasBitAt words n k ↔ (slice_get writes (from + k) ≡ Some n))
    → (k : ℕ) → k < 128 → (o : OpId) → IsOp h o → HasBitAt words (number h o) k ↔ IsMarked h writes from k o
marked-first h writes from words marked k below o is_op =
    let is = marked (number h o) k below in ((λ had. (is_op, is.0 had)), λ both. is.1 both.1)
