use Rattle.std.specs.Prelude.{IfNone, IfOk, IfSome}
use Rattle.std.proofs.Common.{◌⊎◌, inl, inr, subst, ⊎_elim}
use Rattle.model_history.specs.declared.op_id.OpId.{OpId}
use Rattle.order_memory.specs.SourceOrder.{LacksSource, SourceOrder}
use Rattle.order_memory.specs.Memory.{MemoryHistory, memory_answer}
use Rattle.order_causal.specs.Orders.{Leads}
use Rattle.order_memory.specs.Relations.{CO, CF}
use Rattle.order_memory.proofs.FirstWrites.{CO-from_sources}
use Rattle.order_memory.proofs.Outcomes.{none-weaker, some-weaker}
use Rattle.order_memory.proofs.ReadAnswers.{history-fits}
use Rattle.order_causal.proofs.PathsLaws.{leads-edge, leads-wider}
use Rattle.cert_check.specs.Certificates.{HasShapeOf, IsExplainedThroughout}
use Rattle.cert_make_ccv.specs.ByConflicts.{ComesFirst, IsByConflicts}
use Rattle.cert_make_ccv.proofs.ConflictCertificates.{first-conflict, some-unless}
use Rattle.cert_make_ccv.proofs.Cyclic.{order-cycle}
use Rattle.cert_make_ccv.proofs.Explained.{conflicts-explain}
use Rattle.cert_make_ccv.proofs.by_conflicts.make_by_sources.Goals as goal

pub returns-in_default-clause-none : goal.returns-in_default-clause-none
returns-in_default-clause-none c =
    let cases = rw c.in_default.is at c.order.ensures.order in
    ⊎_elim
    (λ (cycle : (a : OpId) × SourceOrder c.args.memory.now a a). inr (cycle.0, order-cycle c.args.memory.now cycle.0 cycle.1))
    (λ (lacks : LacksSource c.args.memory.now). inl lacks)
    cases

pub returns-in_default-clause-made : goal.returns-in_default-clause-made
returns-in_default-clause-made c = λ present acyclic.
    let h = c.args.memory.now in
    let cases = rw c.in_default.is at c.order.ensures.order in
    absurd (⊎_elim
    (λ (cycle : (a : OpId) × SourceOrder h a a).
    acyclic cycle.0 (leads-edge (λ b c. CO h b c ⊎ CF h b c) cycle.0 cycle.0 (inl (CO-from_sources h cycle.0 cycle.0 cycle.1))))
    (λ (lacks : LacksSource h). present lacks)
    cases)

pub returns-clause-none : goal.returns-clause-none
returns-clause-none c =
    let h = c.args.memory.now in
    let same = rw c.in-Some.is at c.order.ensures.order in
    none-weaker c.make_by_order.result ((a : OpId) × Leads (ComesFirst h) a a) (LacksSource h ⊎ ((a : OpId) × Leads (ComesFirst h) a a)) (λ cycle. inr cycle)
    (subst (λ (m : MemoryHistory). IfOk c.make_by_order.result (λ made. IfNone made ((a : OpId) × Leads (ComesFirst m) a a))) same c.make_by_order.ensures.none)

pub returns-clause-made : goal.returns-clause-made
returns-clause-made c = λ present acyclic.
    let h = c.args.memory.now in
    let same = rw c.in-Some.is at c.order.ensures.order in
    some-unless c.make_by_order.result ((a : OpId) × Leads (ComesFirst h) a a)
    (λ cycle. acyclic cycle.0 (leads-wider (ComesFirst h) (λ b c. CO h b c ⊎ CF h b c) (first-conflict h) cycle.0 cycle.0 cycle.1))
    (subst (λ (m : MemoryHistory). IfOk c.make_by_order.result (λ made. IfNone made ((a : OpId) × Leads (ComesFirst m) a a))) same c.make_by_order.ensures.none)

pub returns-clause-explained : goal.returns-clause-explained
returns-clause-explained c = λ start.
    let h = c.args.memory.now in
    let same = rw c.in-Some.is at c.order.ensures.order in
    some-weaker c.make_by_order.result (HasShapeOf h) (IsByConflicts h) (IsExplainedThroughout memory_answer h)
    (conflicts-explain h (history-fits h _ (rw c.history.ensures at c.value_is_history.ensures)) start)
    (subst (λ (m : MemoryHistory). IfOk c.make_by_order.result (λ made. IfSome made (HasShapeOf m))) same c.make_by_order.ensures.shape)
    (subst (λ (m : MemoryHistory). IfOk c.make_by_order.result (λ made. IfSome made (IsByConflicts m))) same c.make_by_order.ensures.exact)
