-- What some of the sessions show.
use Rattle.std.specs.Prelude.{◌≡◌, ℕ, List, Some, slice_get}
use Rattle.model_history.specs.declared.op_id.OpId.{OpId}
use Rattle.order_memory.specs.Memory.{MemoryHistory, Writes}
use Rattle.judge_columns.specs.Swept.{AreSwept, HasEdge}
use Rattle.judge_columns.specs.declared.swept.Swept.{Swept}

-- what was swept is what the sessions show
abbrev pub IsSweptOver : MemoryHistory → (ℕ → Type 0) → Swept → Type 0
IsSweptOver h sessions s = AreSwept h sessions s.has_overwritten_start s.has_overwritten_read (HasEdge s.edges.items)

-- the list has the sessions of all writes
abbrev pub HasWriters : MemoryHistory → List ℕ → Type 0
HasWriters h sessions = (w : OpId) (x v : ℕ) → Writes h w x v → (k : ℕ) × (slice_get sessions k ≡ Some w.session)
