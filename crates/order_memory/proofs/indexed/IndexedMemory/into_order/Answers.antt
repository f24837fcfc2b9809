use Rattle.std.proofs.Common.{subst}
use Rattle.std.specs.Prelude.{MatchOption}
use Rattle.order_memory.specs.Memory.{MemoryHistory}
use Rattle.order_memory.specs.SourceOrder.{CountsSourceOrder}
use Rattle.order_memory.specs.Steps.Indexed.{IsUnordered}
use Rattle.order_memory.proofs.indexed.IndexedMemory.into_order.Goals as goal

pub returns : goal.returns
returns c = subst (λ (h : MemoryHistory). MatchOption c.self.inside.order (IsUnordered h) (CountsSourceOrder h)) c.self.view_is c.self.invariant.ordered
