-- The list of writes that what a pattern shows is looked up in.
use Rattle.std.specs.Prelude.{List}
use Rattle.order_memory.specs.declared.writes.Write.{Write}
use Rattle.order_memory.specs.Memory.{IsDifferentiated, MemoryHistory}
use Rattle.order_memory.specs.Steps.Written.{AreInOrder, IsSorted, ListsWrites}

-- a list names the writes of a history of distinct values, in the order by variable and value
pub record AreDistinctWrites (h : MemoryHistory) (writes : List Write) : Type 0 where
  pub listed : ListsWrites h writes
  pub sorted : IsSorted writes
  pub in_order : AreInOrder writes
  pub differentiated : IsDifferentiated h
