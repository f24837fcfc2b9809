use Rattle.order_memory.specs.Steps.Indexed.{ListsIfAnyBelow}
use Rattle.order_memory.proofs.found_sources.sources_of_session.Given as goal

-- the sources so far are listed
abbrev pub invariant-loop-index : goal.invariant-loop-index
invariant-loop-index l = ListsIfAnyBelow l.h l.session l.index l.sources.items
