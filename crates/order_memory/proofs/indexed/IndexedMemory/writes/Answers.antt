use Rattle.std.specs.Prelude.{List}
use Rattle.std.proofs.Common.{subst, sym}
use Rattle.order_memory.specs.declared.writes.Write.{Write}
use Rattle.order_memory.specs.Memory.{MemoryHistory}
use Rattle.order_memory.specs.Steps.Written.{AreInOrder, IsSorted, ListsWrites}
use Rattle.order_memory.proofs.indexed.IndexedMemory.writes.Goals as goal

pub returns-clause-writes : goal.returns-clause-writes
returns-clause-writes c =
    subst (λ (h : MemoryHistory). ListsWrites h c.as_slice.result.now) c.self.view_is
    (subst (λ (ws : List Write). ListsWrites c.self.inside.history.now ws) (sym c.as_slice.ensures.value) c.self.invariant.writes)

pub returns-clause-sorted : goal.returns-clause-sorted
returns-clause-sorted c = subst (λ (ws : List Write). IsSorted ws) (sym c.as_slice.ensures.value) c.self.invariant.sorted

pub returns-clause-in_order : goal.returns-clause-in_order
returns-clause-in_order c = subst (λ (ws : List Write). AreInOrder ws) (sym c.as_slice.ensures.value) c.self.invariant.in_order
