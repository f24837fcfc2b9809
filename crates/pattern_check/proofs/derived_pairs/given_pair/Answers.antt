use Rattle.pattern_check.proofs.derived_pairs.given_pair.Goals as goal

pub returns-in-Tr : goal.returns-in-Tr
returns-in-Tr g c = rw c.in-Tr.is c.joined_pair.ensures

pub returns-in-Rf : goal.returns-in-Rf
returns-in-Rf g c = rw c.in-Rf.is c.rival_pair.ensures
