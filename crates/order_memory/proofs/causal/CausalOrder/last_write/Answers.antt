use Rattle.std.specs.Prelude.{MatchOption}
use Rattle.std.proofs.Common.{subst}
use Rattle.order_memory.specs.Memory.{MemoryHistory}
use Rattle.order_causal.specs.Orders.{op}
use Rattle.order_memory.specs.Steps.Indexed.{HasNoWriteBefore, IsLastWriteBefore}
use Rattle.order_memory.proofs.CausalOrders.{last-past}
use Rattle.order_memory.proofs.causal.CausalOrder.last_write.Goals as goal

pub returns : goal.returns
returns c =
    let end = op c.args.session c.count.result in
    let found = subst (λ (h : MemoryHistory). MatchOption c.last_write_before.result (HasNoWriteBefore h c.args.read.now.key end) (IsLastWriteBefore h c.args.read.now.key end))
    c.self.view_is (rw c.at-end.ensures at c.last_write_before.ensures) in
    last-past c.args.self.now c.args.read.now.key c.args.session c.count.result c.args.read.now.op c.count.ensures c.last_write_before.result found
