use Rattle.std.proofs.Common.{◌≡◌, ℕ}
use Rattle.std.specs.Prelude.{Some}
use Rattle.pattern_search.specs.Steps.Reasons.{IsFirstFrom, IsRaiseOf, end_of}
use Rattle.pattern_search.proofs.search.reasons.Reasons.first.Given as goal

-- what is found is the first of the raises behind the next one, which is of the second operation of the pair
abbrev pub invariant-back : goal.invariant-back
invariant-back l =
    IsFirstFrom l.self-inside.raises.now l.pair (end_of l.next) l.found × ((i : ℕ) → l.next ≡ Some i → IsRaiseOf l.self-inside.raises.now l.pair.1 i)

-- the next one is an earlier and earlier one
abbrev pub decreases-back : goal.decreases-back
decreases-back l = end_of l.next
