use Rattle.order_memory.specs.Steps.Indexed.{ListsIfAnySoFar}
use Rattle.order_memory.proofs.found_sources.found_sources.Given as goal

-- the sources of the sessions so far are listed
abbrev pub invariant-loop-session : goal.invariant-loop-session
invariant-loop-session l = ListsIfAnySoFar l.h l.session l.sources
