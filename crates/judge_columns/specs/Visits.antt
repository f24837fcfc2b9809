-- What the visit of one operation does to a column.
use Rattle.std.specs.Prelude.{◌≡◌, ◌≢◌, ◌⊎◌, ℕ, ◌+◌, ◌≤◌, Option, MatchOption}
use Rattle.model_history.specs.declared.op_id.OpId.{OpId}
use Rattle.model_history.specs.History.{many_before, number}
use Rattle.order_memory.specs.Memory.{MemoryHistory}
use Rattle.order_memory.specs.Relations.{ReadsFrom}
use Rattle.judge_memory.specs.Steps.{IsNext}

-- m is the greater of two numbers
pub record IsGreater (a b m : ℕ) : Type 0 where
  pub first : a ≤ m
  pub second : b ≤ m
  pub one : (m ≡ a) ⊎ (m ≡ b)

-- m is the lesser of two numbers
pub record IsLesser (a b m : ℕ) : Type 0 where
  pub first : m ≤ a
  pub second : m ≤ b
  pub one : (m ≡ a) ⊎ (m ≡ b)

-- at k stands the lesser of what stood there and m
pub record IsLoweredAt (firsts lowered : ℕ → ℕ) (k m : ℕ) : Type 0 where
  pub here : IsLesser (firsts k) m (lowered k)
  pub others : (n : ℕ) → n ≢ k → lowered n ≡ firsts n

-- m is a, raised to the end for the number e, if there is one
abbrev pub IsRaisedTo : (ℕ → ℕ) → ℕ → Option ℕ → ℕ → Type 0
IsRaisedTo ends a e m = MatchOption e (m ≡ a) (λ n. IsGreater a (ends n) m)

-- the first for the number e, if there is one, is lowered to m
abbrev pub IsLoweredTo : (ℕ → ℕ) → Option ℕ → ℕ → (ℕ → ℕ) → Type 0
IsLoweredTo firsts e m lowered = MatchOption e ((k : ℕ) → lowered k ≡ firsts k) (λ n. IsLoweredAt firsts lowered n m)

module _ (h : MemoryHistory) (o : OpId) (related : OpId → OpId → Type 0) where
  -- m is a, raised to the end for the operation that is related to o, if there is one
  abbrev pub IsRaisedBy : (ℕ → ℕ) → ℕ → ℕ → Type 0
  IsRaisedBy ends a m = (((p : OpId) → ¬ related p o) × (m ≡ a)) ⊎ ((p : OpId) × related p o × IsGreater a (ends (number h p)) m)

  -- the first for the operation that is related to o, if there is one, is lowered to m
  abbrev pub IsLoweredBy : (ℕ → ℕ) → (ℕ → ℕ) → ℕ → Type 0
  IsLoweredBy firsts lowered m =
      (((p : OpId) → ¬ related p o) × ((n : ℕ) → lowered n ≡ firsts n))
      ⊎ ((p : OpId) × related p o × IsLoweredAt firsts lowered (number h p) m)

module _ (h : MemoryHistory) (t : ℕ) (o : OpId) where
  -- the end for o comes of the first number of t, of the operation before o, of the source of o, and of o itself
  pub record IsForwardVisit (ends : ℕ → ℕ) (before read end : ℕ) : Type 0 where
    pub previous : IsRaisedBy h o (IsNext h) ends (many_before h t) before
    pub source : IsRaisedBy h o (ReadsFrom h) ends before read
    pub own : o.session ≡ t → end ≡ number h o + 1
    pub other : o.session ≢ t → end ≡ read

  -- o gets its own number, if it is of t; then the operation before o gets at most as much as o, and then its source does
  pub record IsBackwardVisit (firsts own before read : ℕ → ℕ) : Type 0 where
    pub of_session : o.session ≡ t → own (number h o) ≡ number h o
    pub of_other : o.session ≢ t → own (number h o) ≡ firsts (number h o)
    pub others : (n : ℕ) → n ≢ number h o → own n ≡ firsts n
    pub previous : IsLoweredBy h o (IsNext h) own before (own (number h o))
    pub source : IsLoweredBy h o (ReadsFrom h) before read (own (number h o))
