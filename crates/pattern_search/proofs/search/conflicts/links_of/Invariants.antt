use Rattle.std.proofs.Common.{◌≡◌, ◌+◌, ◌≤◌, length}
use Rattle.pattern_search.specs.Steps.Conflicts.{AreLinksOf}
use Rattle.pattern_search.proofs.search.conflicts.links_of.Given as goal

-- the links so far go from each operation before to the next
abbrev pub invariant-loop-i : goal.invariant-loop-i
invariant-loop-i l = (l.i ≤ length l.ops) × (length l.links.items + 1 ≡ l.i) × AreLinksOf l.order l.ops l.links.items
