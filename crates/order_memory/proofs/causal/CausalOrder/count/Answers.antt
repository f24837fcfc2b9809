use Rattle.std.specs.Prelude.{◌↔◌, ◌<◌, ℕ}
use Rattle.std.proofs.Common.{subst}
use Rattle.order_memory.specs.Memory.{MemoryHistory}
use Rattle.order_causal.specs.Orders.{op}
use Rattle.order_memory.specs.Steps.Indexed.{IsSourcePast}
use Rattle.order_memory.proofs.CausalOrders.{count-past}
use Rattle.order_memory.proofs.causal.CausalOrder.count.Goals as goal

pub returns : goal.returns
returns c =
    subst (λ (h : MemoryHistory). (i : ℕ) → (i < c.count_at.result) ↔ IsSourcePast h c.args.op (op c.args.session i)) c.self.view_is
    (count-past c.self.inside.memory.now c.self.inside.vectors.now c.self.invariant c.args.op c.args.session c.count_at.result c.count_at.ensures)
