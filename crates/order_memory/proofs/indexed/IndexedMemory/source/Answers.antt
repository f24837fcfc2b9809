use Rattle.std.specs.Prelude.{Option}
use Rattle.std.proofs.Common.{subst, sym}
use Rattle.model_history.specs.declared.op_id.OpId.{OpId}
use Rattle.order_memory.specs.Memory.{MemoryHistory}
use Rattle.order_memory.specs.Steps.Indexed.{IsSourceIfAny}
use Rattle.order_memory.proofs.IndexedLaws.{listed-if_any}
use Rattle.order_memory.proofs.indexed.IndexedMemory.source.Goals as goal

pub returns : goal.returns
returns c =
    subst (λ (h : MemoryHistory). IsSourceIfAny h c.args.op c.source_in.result) c.self.view_is
    (subst (λ (e : Option OpId). IsSourceIfAny c.self.inside.history.now c.args.op e) (sym c.source_in.ensures)
    (listed-if_any c.self.inside.history.now c.self.inside.sources c.self.invariant.sources c.args.op))
