use Rattle.std.proofs.Common.{subst}
use Rattle.order_memory.specs.Memory.{MemoryHistory}
use Rattle.order_memory.specs.Steps.Indexed.{IsOrdered, IsUnordered}
use Rattle.order_memory.proofs.indexed.IndexedMemory.order.Goals as goal

pub returns-in-None-clause-order : goal.returns-in-None-clause-order
returns-in-None-clause-order c = subst (λ (h : MemoryHistory). IsUnordered h) c.self.view_is (rw c.in-None.is at c.self.invariant.ordered)

pub returns-in-Some-clause-ordered : goal.returns-in-Some-clause-ordered
returns-in-Some-clause-ordered c =
    let counts = rw c.in-Some.is at c.self.invariant.ordered in
    subst (λ (h : MemoryHistory). IsOrdered h) c.self.view_is (record { acyclic = counts.acyclic; sources = counts.sources })
