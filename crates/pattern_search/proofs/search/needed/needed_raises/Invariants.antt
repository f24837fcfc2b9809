use Rattle.std.proofs.Common.{◌≡◌, ◌+◌, ◌-◌, length, true}
use Rattle.std.specs.Prelude.{Some, slice_get}
use Rattle.pattern_search.specs.Steps.Reasons.{AreClosedFrom}
use Rattle.pattern_search.proofs.search.needed.needed_raises.Given as goal

-- what the marked raises so far rest on is marked
abbrev pub invariant-loop-behind : goal.invariant-loop-behind
invariant-loop-behind l =
    (length l.needed.items ≡ length l.reasons) × (slice_get l.needed.items l.number ≡ Some true)
    × AreClosedFrom l.order l.reasons l.needed.items (l.number + 1 - l.behind)
