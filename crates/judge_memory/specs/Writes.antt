-- The writes of a history as they are searched.
use Rattle.std.specs.Prelude.{ℕ, List, Contains}
use Rattle.model_history.specs.declared.op_id.OpId.{OpId}
use Rattle.order_memory.specs.declared.writes.Write.{Write}
use Rattle.order_memory.specs.Memory.{MemoryHistory}
use Rattle.order_memory.specs.Steps.Written.{AreInOrder, IsSorted, ListsWrites}

-- a list names the writes of h, and they rise by variable, value and operation
pub record ListsSortedWrites (h : MemoryHistory) (writes : List Write) : Type 0 where
  pub lists : ListsWrites h writes
  pub sorted : IsSorted writes
  pub in_order : AreInOrder writes

-- the operation o is among the writes, with the value v of the variable x
abbrev pub IsWriter : List Write → ℕ → ℕ → OpId → Type 0
IsWriter writes x v o = Contains writes (record { op = o; key = x; value = v })
