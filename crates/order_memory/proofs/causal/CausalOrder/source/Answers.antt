use Rattle.std.proofs.Common.{subst}
use Rattle.order_memory.specs.Memory.{MemoryHistory}
use Rattle.order_memory.specs.Steps.Indexed.{IsSourceIfAny}
use Rattle.order_memory.proofs.causal.CausalOrder.source.Goals as goal

pub returns : goal.returns
returns c = subst (λ (h : MemoryHistory). IsSourceIfAny h c.args.op c.source.result) c.self.view_is c.source.ensures
