use Rattle.std.proofs.Common.{◌≡◌, length}
use Rattle.show_words.proofs.derived_pairs.DerivedPairs.of.Given as goal

-- one for each line so far
abbrev pub invariant-loop-line : goal.invariant-loop-line
invariant-loop-line l = length l.pairs.items ≡ l.line-index
