use Rattle.order_memory.specs.Steps.Written.{ListsWrites}
use Rattle.order_memory.specs.Memory.{MemoryHistory}
use Rattle.std.proofs.Common.{subst}
use Rattle.order_memory.proofs.indexed.IndexedMemory.writes_by_variable.Goals as goal

pub returns-clause-writes : goal.returns-clause-writes
returns-clause-writes c =
    rw c.as_slice.ensures.value
    (subst (λ (h : MemoryHistory). ListsWrites h c.self.inside.by_variable.items) c.self.view_is c.self.invariant.by_variable)

pub returns-clause-sorted : goal.returns-clause-sorted
returns-clause-sorted c = rw c.as_slice.ensures.value c.self.invariant.sorted_by_variable
