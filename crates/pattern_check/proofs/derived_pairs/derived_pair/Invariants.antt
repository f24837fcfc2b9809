use Rattle.pattern_check.specs.Derivations.{GivePairs}
use Rattle.pattern_check.proofs.derived_pairs.derived_pair.Given as goal

-- the lines so far give these pairs
abbrev pub invariant-loop-line : goal.invariant-loop-line
invariant-loop-line g l = GivePairs (g.M.KnownMemory.history l.h) l.op l.lines l.line-index l.pairs.items
