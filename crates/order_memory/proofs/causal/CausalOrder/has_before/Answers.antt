use Rattle.std.specs.Prelude.{◌↔◌, IsTrue}
use Rattle.std.proofs.Common.{subst}
use Rattle.order_memory.specs.Memory.{MemoryHistory}
use Rattle.order_memory.specs.SourceOrder.{SourceOrder}
use Rattle.order_memory.proofs.CausalOrders.{test-before}
use Rattle.order_memory.proofs.causal.CausalOrder.has_before.Goals as goal

pub returns-clause-before : goal.returns-clause-before
returns-clause-before c =
    subst (λ (h : MemoryHistory). IsTrue c.has_counted_other.result ↔ SourceOrder h c.args.pair.0 c.args.pair.1) c.self.view_is
    (test-before c.self.inside.memory.now c.self.inside.vectors.now c.self.invariant c.args.pair.0 c.args.pair.1 c.has_counted_other.result c.has_counted_other.ensures)
