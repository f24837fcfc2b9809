-- The column of a session: for each operation, where its past ends in the session, and from where on it is in the past of the session's
-- operations. Both are numbers of operations.
use Rattle.std.specs.Prelude.{◌≡◌, ◌≢◌, ◌⊎◌, ◌↔◌, ℕ, ◌+◌, ◌<◌, ◌≤◌, List}
use Rattle.model_history.specs.declared.op_id.OpId.{OpId}
use Rattle.model_history.specs.History.{IsOp, many_before, number}
use Rattle.order_memory.specs.Memory.{MemoryHistory}
use Rattle.order_memory.specs.Relations.{IsPast}
use Rattle.judge_memory.specs.Steps.{IsStep, IsVisited, IsAfter}

module _ (h : MemoryHistory) (t : ℕ) where
  -- an operation of t is in the past of o exactly where its number is below the end for o
  abbrev pub ArePastEnds : (ℕ → ℕ) → Type 0
  ArePastEnds ends = (o c : OpId) → IsOp h o → IsOp h c → c.session ≡ t → (number h c < ends (number h o)) ↔ IsPast h o c

  -- each end is the number of an operation of t, or the one after its last
  abbrev pub AreWithinSession : (ℕ → ℕ) → Type 0
  AreWithinSession ends = (o : OpId) → IsOp h o → (many_before h t ≤ ends (number h o)) × (ends (number h o) ≤ many_before h (t + 1))

  -- o is in the past of an operation of t exactly where that one's number is not below the first for o
  abbrev pub AreFirsts : (ℕ → ℕ) → Type 0
  AreFirsts firsts = (o c : OpId) → IsOp h o → IsOp h c → c.session ≡ t → (firsts (number h o) ≤ number h c) ↔ IsPast h c o

  -- end is the number after that of o, if o is of t; else the greatest of the first number of t and the ends for what steps to o
  pub record IsNextEnd (ends : ℕ → ℕ) (o : OpId) (end : ℕ) : Type 0 where
    pub own : o.session ≡ t → end ≡ number h o + 1
    pub most : o.session ≢ t → (p : OpId) → IsStep h p o → ends (number h p) ≤ end
    pub one : o.session ≢ t → (end ≡ many_before h t) ⊎ ((p : OpId) × IsStep h p o × (end ≡ ends (number h p)))

  -- the ends are right for the operations before the place i of the order
  pub record ArePastEndsBefore (order : List ℕ) (i : ℕ) (ends : ℕ → ℕ) : Type 0 where
    pub exact : (o c : OpId) → IsOp h o → IsVisited h order i o → IsOp h c → c.session ≡ t → (number h c < ends (number h o)) ↔ IsPast h o c
    pub from : (o : OpId) → IsOp h o → IsVisited h order i o → many_before h t ≤ ends (number h o)
    pub to : (o : OpId) → IsOp h o → IsVisited h order i o → ends (number h o) ≤ many_before h (t + 1)

  -- what the visit of o makes of the firsts: its own number for o, if o is of t, and for what steps to o at most what is there for o
  pub record IsLowered (firsts : ℕ → ℕ) (o : OpId) (lowered : ℕ → ℕ) : Type 0 where
    pub own : o.session ≡ t → lowered (number h o) ≡ number h o
    pub other : o.session ≢ t → lowered (number h o) ≡ firsts (number h o)
    pub steps : (b : OpId) → IsOp h b → b ≢ o → (n : ℕ)
        → (lowered (number h b) ≤ n) ↔ ((firsts (number h b) ≤ n) ⊎ (IsStep h b o × (lowered (number h o) ≤ n)))

  -- the firsts are right as far as the operations from the place i of the order on show
  pub record AreFirstsFrom (order : List ℕ) (i : ℕ) (firsts : ℕ → ℕ) : Type 0 where
    pub exact : (o c : OpId) → IsOp h o → IsOp h c → c.session ≡ t → (firsts (number h o) ≤ number h c)
        ↔ ((IsAfter h order i o × (o ≡ c)) ⊎ ((d : OpId) × IsStep h o d × IsAfter h order i d × IsPast h c d))
    pub to : (o : OpId) → IsOp h o → firsts (number h o) ≤ many_before h (t + 1)
