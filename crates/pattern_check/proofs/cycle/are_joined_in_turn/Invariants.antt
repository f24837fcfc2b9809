use Rattle.pattern_check.specs.Paths.{AreJoined}
use Rattle.pattern_check.proofs.Neighbours.{AreRelatedUpTo}
use Rattle.pattern_check.proofs.cycle.are_joined_in_turn.Given as goal

-- each link so far is joined to the next
abbrev pub invariant-loop-i : goal.invariant-loop-i
invariant-loop-i l = AreRelatedUpTo AreJoined l.links l.i
