use Rattle.pattern_check.proofs.checking.is_shown.Goals as goal

pub returns-in-WriteHBInitRead : goal.returns-in-WriteHBInitRead
returns-in-WriteHBInitRead g c = rw c.in-WriteHBInitRead.is c.is_derivation_of_initial_read.ensures

pub returns-in-CyclicHB : goal.returns-in-CyclicHB
returns-in-CyclicHB g c = rw c.in-CyclicHB.is c.is_derivation_of_cycle.ensures
