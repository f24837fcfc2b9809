use Rattle.pattern_search.proofs.search.conflicts.cycle_with_conflicts.Goals as goal

pub returns-in-None : goal.returns-in-None
returns-in-None c = rw c.in-None.is at c.in_ok-ops.ensures
