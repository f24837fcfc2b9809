use Rattle.std.specs.Prelude.{◌↔◌, IsTrue}
use Rattle.std.proofs.Common.{subst}
use Rattle.order_memory.specs.Memory.{MemoryHistory}
use Rattle.order_memory.specs.Steps.Indexed.{IsSourcePast}
use Rattle.order_memory.proofs.CausalOrders.{test-past}
use Rattle.order_memory.proofs.causal.CausalOrder.has_in_past.Goals as goal

pub returns : goal.returns
returns c =
    subst (λ (h : MemoryHistory). IsTrue c.has_counted.result ↔ IsSourcePast h c.args.op c.args.earlier) c.self.view_is
    (test-past c.self.inside.memory.now c.self.inside.vectors.now c.self.invariant c.args.op c.args.earlier c.has_counted.result c.has_counted.ensures)
