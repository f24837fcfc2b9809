-- What has to come before an operation because of a read.
use Rattle.std.specs.Prelude.{◌≡◌, ◌≢◌, ◌⊎◌, ◌↔◌, ℕ, ◌<◌, ◌≤◌}
use Rattle.model_history.specs.declared.op_id.OpId.{OpId}
use Rattle.order_memory.specs.Memory.{MemoryHistory, Writes, Reads}
use Rattle.order_memory.specs.SourceOrder.{IsSource, SourceOrder}
use Rattle.order_memory.specs.Steps.Indexed.{IsSourcePast}
use Rattle.order_causal.specs.Orders.{op}
use Rattle.order_causal.specs.Vectors.{Counts, count}
use Rattle.order_causal.specs.Waits.{AreAlike}

module _ (h : MemoryHistory) where
  -- a is a write of the variable of the read r, and comes before r
  pub record IsWriteInPast (r a : OpId) : Type 0 where
    pub x : ℕ
    pub u : ℕ
    pub y : ℕ
    pub writes : Writes h a x u
    pub reads : Reads h r x y
    pub before : SourceOrder h a r

  -- by the read r, a has to come before o: it is the source of r, which is o, or o is the source, and a is a write of its
  -- variable that comes before r
  abbrev pub IsDueTo : OpId → OpId → OpId → Type 0
  IsDueTo r a o = (IsSource h a r × (o ≡ r)) ⊎ (IsSource h o r × IsWriteInPast r a)

  -- by some read
  abbrev pub IsDue : OpId → OpId → Type 0
  IsDue a o = (r : OpId) × IsDueTo r a o

  -- the operation i of the session s is a write of the variable x in the past of r, or comes before one of its session
  abbrev pub IsUpToWrite : ℕ → OpId → ℕ → ℕ → Type 0
  IsUpToWrite x r s i = (j u : ℕ) × (i ≤ j) × IsSourcePast h r (op s j) × Writes h (op s j) x u

-- o waits, beside what it waited for, for these operations of each session
pub record AddsWaits (more : ℕ → ℕ → Type 0) (o : OpId) (before after : Counts) : Type 0 where
  pub alike : AreAlike after before
  pub raised : (s i : ℕ) → (i < count after o s) ↔ ((i < count before o s) ⊎ more s i)
  pub others : (p : OpId) (s : ℕ) → p ≢ o → count after p s ≡ count before p s
