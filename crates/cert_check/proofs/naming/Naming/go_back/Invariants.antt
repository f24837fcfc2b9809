use Rattle.std.proofs.Common.{◌≤◌, length}
use Rattle.cert_check.specs.Steps.Namings.{AreCountsAt}
use Rattle.cert_check.proofs.naming.Naming.go_back.Given as goal

abbrev pub decreases-loop-at : goal.decreases-loop-at
decreases-loop-at l = l.at

-- the counts are those of the front of the list
abbrev pub invariant-loop-at : goal.invariant-loop-at
invariant-loop-at l = (l.to ≤ l.at) × (l.at ≤ length l.list) × AreCountsAt l.list l.at (length l.initial.self.counts.items) l.self.counts.items
