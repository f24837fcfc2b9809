use Rattle.std.proofs.Common.{◌<◌, ◌∙◌, length, subst, sym}
use Rattle.std.specs.Prelude.{IfOk}
use Rattle.model_history.specs.History.{session}
use Rattle.order_memory.specs.Memory.{MemoryHistory}
use Rattle.order_memory.specs.Steps.HappenedBefores.{IsMade, TakesNext, session_of, taken_of}
use Rattle.order_memory.specs.Steps.Indexed.{ListsSourcesIfAny}
use Rattle.order_memory.proofs.happened_before.HappenedBefore.take_next.Goals as goal

pub take_next_of-requires-clause-made : goal.take_next_of-requires-clause-made
take_next_of-requires-clause-made c = subst (λ (h : MemoryHistory). IsMade h c.args.self) (sym c.history.ensures) c.requires.made

pub take_next_of-requires-clause-next : goal.take_next_of-requires-clause-next
take_next_of-requires-clause-next c =
    subst (λ (h : MemoryHistory). taken_of c.args.self < length (session h (session_of c.args.self))) (sym c.history.ensures) c.requires.next

pub returns : goal.returns
returns c = subst (λ (h : MemoryHistory). IfOk c.take_next_of.result (TakesNext h c.args.self)) c.history.ensures c.take_next_of.ensures

pub take_next_of-requires-clause-sources : goal.take_next_of-requires-clause-sources
take_next_of-requires-clause-sources c =
    subst (λ (h : MemoryHistory). ListsSourcesIfAny h c.sources.result.now) (c.memory.ensures ∙ sym c.history.ensures) c.sources.ensures
