use Rattle.pattern_search.specs.Steps.Reasons.{AreLinked}
use Rattle.pattern_search.proofs.search.reasons.Reasons.of.Given as goal

-- the raises so far are linked
abbrev pub invariant-loop-raise : goal.invariant-loop-raise
invariant-loop-raise l = AreLinked l.raises l.raise-index l.latest l.earlier.items
