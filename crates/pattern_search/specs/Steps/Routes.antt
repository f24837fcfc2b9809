-- Routes back through the past of an operation, and what a search for read patterns finds.
--
-- Private functions alone name these in their contracts: what a pattern is and what it shows does not rest on them.
use Rattle.std.specs.Prelude.{◌≡◌, ◌≢◌, ◌⊎◌, ℕ, ◌+◌, ◌<◌, ◌≤◌, List, [], ◌∷◌, ◌++◌, None, Some}
use Rattle.model_history.specs.declared.op_id.OpId.{OpId}
use Rattle.order_memory.specs.declared.known_reads.KnownRead.{KnownRead}
use Rattle.order_memory.specs.Memory.{MemoryHistory, Writes}
use Rattle.order_causal.specs.Orders.{op}
use Rattle.order_memory.specs.SourceOrder.{SourceOrder}
use Rattle.order_causal.specs.Vectors.{Counts, IsCounted}

-- f is the first operation of the session of o whose vector counts a
pub record IsFirstCounting (v : Counts) (a o f : OpId) : Type 0 where
  pub session : f.session ≡ o.session
  pub up_to : f.index ≤ o.index
  pub counts : IsCounted v f a
  pub first : (i : ℕ) → i < f.index → ¬ IsCounted v (op f.session i) a

-- the vector of the operation before o in its session counts a
abbrev pub IsCountedBefore : Counts → OpId → OpId → Type 0
IsCountedBefore v o a = (j : ℕ) × (o.index ≡ j + 1) × IsCounted v (op o.session j) a

-- o is put behind a list, where it isn't its last operation
abbrev pub IsPushedApart : OpId → OpId → List OpId → List OpId → Type 0
IsPushedApart last o before after = ((o ≡ last) × (after ≡ before)) ⊎ ((o ≢ last) × (after ≡ before ++ o ∷ []))

module _ (h : MemoryHistory) where
  -- a write of the variable of a read that has no source comes before the read
  pub record IsWriteBefore (k : KnownRead) (w : OpId) : Type 0 where
    pub initially : k.source ≡ None
    pub value : ℕ
    pub writes : Writes h w k.key value
    pub before : SourceOrder h w k.op

  -- another write of the variable of a read comes behind its source a and before the read
  pub record AreWritesBefore (k : KnownRead) (a b : OpId) : Type 0 where
    pub source : k.source ≡ Some a
    pub apart : a ≢ b
    pub value : ℕ
    pub writes : Writes h b k.key value
    pub behind : SourceOrder h a b
    pub before : SourceOrder h b k.op
