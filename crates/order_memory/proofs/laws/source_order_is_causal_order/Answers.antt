use Rattle.std.proofs.Common.{⊎_elim, inl, inr}
use Rattle.model_history.specs.declared.op_id.OpId.{OpId}
use Rattle.order_memory.specs.SourceOrder.{LacksSource, SourceOrder}
use Rattle.order_memory.proofs.FirstWrites.{counts-past, CO-from_sources, CO-by_sources}
use Rattle.order_memory.proofs.laws.source_order_is_causal_order.Goals as goal

pub returns-clause-counted : goal.returns-clause-counted
returns-clause-counted c = λ h v distinct counts. counts-past h distinct v counts

pub returns-clause-acyclic : goal.returns-clause-acyclic
returns-clause-acyclic c = λ h v distinct counts cyclic. counts.acyclic cyclic.0 (CO-by_sources h distinct cyclic.0 cyclic.0 cyclic.1)

pub returns-clause-unordered : goal.returns-clause-unordered
returns-clause-unordered c = λ h distinct unordered. ⊎_elim
    (λ (cycle : (a : OpId) × SourceOrder h a a). inl (cycle.0, CO-from_sources h cycle.0 cycle.0 cycle.1))
    (λ (lacks : LacksSource h). inr lacks)
    unordered
