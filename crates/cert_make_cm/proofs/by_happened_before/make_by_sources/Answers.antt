use Rattle.std.specs.Prelude.{IfNone, IfOk, IfSome}
use Rattle.std.proofs.Common.{◌⊎◌, inl, inr, subst, ⊎_elim}
use Rattle.model_history.specs.declared.op_id.OpId.{OpId}
use Rattle.order_memory.specs.HappenedBeforePatterns.{HasStartOverwrittenInHB}
use Rattle.order_memory.specs.Memory.{MemoryHistory, IsDifferentiated, memory_answer}
use Rattle.order_memory.specs.SourceOrder.{IsCyclic, LacksSource, SourceOrder}
use Rattle.order_memory.proofs.FirstWrites.{CO-from_sources}
use Rattle.order_memory.proofs.Outcomes.{none-weaker}
use Rattle.cert_check.specs.Certificates.{IsExplainedThroughout}
use Rattle.cert_make_cm.specs.ByTurns.{HasNoTurns}
use Rattle.cert_make_cm.proofs.by_happened_before.make_by_sources.Goals as goal

pub returns-in_default-clause-none : goal.returns-in_default-clause-none
returns-in_default-clause-none c = λ distinct.
    let h = c.args.memory.now in
    let unordered = rw c.in_default.is at c.order.ensures.order in
    inl (⊎_elim
    (λ (cycle : (a : OpId) × SourceOrder h a a). inl (cycle.0, CO-from_sources h cycle.0 cycle.0 cycle.1))
    (λ (lacks : LacksSource h). inr lacks)
    unordered)

pub returns-clause-none : goal.returns-clause-none
returns-clause-none c = λ distinct.
    let h = c.args.memory.now in
    let same = rw c.in-Some.is at c.order.ensures.order in
    none-weaker c.make_by_order.result (HasNoTurns h) ((IsCyclic h ⊎ LacksSource h) ⊎ HasNoTurns h) (λ no_turns. inr no_turns)
    (subst (λ (m : MemoryHistory). IsDifferentiated m → IfOk c.make_by_order.result (λ made. IfNone made (HasNoTurns m))) same c.make_by_order.ensures.none distinct)

pub returns-clause-some : goal.returns-clause-some
returns-clause-some c =
    let same = rw c.in-Some.is at c.order.ensures.order in
    subst (λ (m : MemoryHistory). IsDifferentiated m → IfOk c.make_by_order.result (λ made. IfSome made (λ _. ¬ HasNoTurns m))) same c.make_by_order.ensures.some

pub returns-clause-explained : goal.returns-clause-explained
returns-clause-explained c =
    let same = rw c.in-Some.is at c.order.ensures.order in
    subst
    (λ (m : MemoryHistory). IsDifferentiated m → ¬ HasStartOverwrittenInHB m
    → IfOk c.make_by_order.result (λ made. IfSome made (IsExplainedThroughout memory_answer m)))
    same c.make_by_order.ensures.explained
