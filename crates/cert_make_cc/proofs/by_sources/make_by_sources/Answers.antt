use Rattle.std.proofs.Common.{subst, ⊎_elim}
use Rattle.model_history.specs.declared.op_id.OpId.{OpId}
use Rattle.order_memory.specs.Memory.{MemoryHistory, memory_answer}
use Rattle.order_memory.specs.SourceOrder.{LacksSource, SourceOrder}
use Rattle.order_memory.specs.OverwrittenReads.{HasOverwrittenRead, HasOverwrittenStart}
use Rattle.order_memory.proofs.FirstWrites.{CO-from_sources}
use Rattle.cert_check.specs.Certificates.{IsExplainedThroughout}
use Rattle.cert_make_cc.proofs.by_sources.make_by_sources.Goals as goal

pub returns-in_default-clause-none : goal.returns-in_default-clause-none
returns-in_default-clause-none c = rw c.in_default.is at c.order.ensures.order

pub returns-in_default-clause-made : goal.returns-in_default-clause-made
returns-in_default-clause-made c = λ acyclic present.
    let unordered = rw c.in_default.is at c.order.ensures.order in
    absurd (⊎_elim
    (λ (cycle : (a : OpId) × SourceOrder c.args.memory.now a a). acyclic (cycle.0, CO-from_sources c.args.memory.now cycle.0 cycle.0 cycle.1))
    (λ (lacks : LacksSource c.args.memory.now). present lacks)
    unordered)

pub returns-clause-explained : goal.returns-clause-explained
returns-clause-explained c =
    let same = rw c.in-Some.is at c.order.ensures.order in
    subst
    (λ (m : MemoryHistory). ¬ HasOverwrittenStart m → ¬ HasOverwrittenRead m → IsExplainedThroughout memory_answer m c.in_ok-make_by_order.field-0)
    same c.in_ok-make_by_order.ensures.explained
