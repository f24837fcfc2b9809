use Rattle.std.proofs.Common.{subst, sym}
use Rattle.model_history.specs.declared.op_id.OpId.{OpId}
use Rattle.order_memory.specs.Memory.{MemoryHistory}
use Rattle.order_memory.specs.SourceOrder.{IsCyclic}
use Rattle.pattern_check.specs.Kinds.{IsThinAirRead}
use Rattle.order_memory.specs.Steps.Indexed.{ListsSourcesIfAny}
use Rattle.pattern_search.proofs.FirstKindLaws.{first-cycle, first-thin_air}
use Rattle.pattern_search.proofs.NothingFound.{unordered-shown}
use Rattle.pattern_search.proofs.finding.find_without_order.Goals as goal

pub cyclic_order-requires-clause-sources : goal.cyclic_order-requires-clause-sources
cyclic_order-requires-clause-sources c =
    subst (λ (h : MemoryHistory). ListsSourcesIfAny h c.sources.result.now) (sym c.history.ensures) c.sources.ensures

pub unreachable-requires : goal.unreachable-requires
unreachable-requires c =
    let acyclic = rw c.in_default.is at c.in_ok-path.ensures in
    unordered-shown c.args.memory.now c.requires.unordered (subst (λ (h : MemoryHistory). ¬ IsCyclic h) c.history.ensures acyclic)
    (subst (λ (h : MemoryHistory). (r : OpId) → ¬ IsThinAirRead h r) c.history-2.ensures c.in_default-first_thin_air_read.ensures)

pub returns-in-Some-clause-kind : goal.returns-in-Some-clause-kind
returns-in-Some-clause-kind c = λ criterion. first-cycle c.args.memory.now criterion

pub returns-clause-kind : goal.returns-clause-kind
returns-clause-kind c = λ criterion.
    let acyclic = rw c.in_default.is at c.in_ok-path.ensures in
    first-thin_air c.args.memory.now (subst (λ (h : MemoryHistory). ¬ IsCyclic h) c.history.ensures acyclic) criterion
