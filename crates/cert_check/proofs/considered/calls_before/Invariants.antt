use Rattle.std.proofs.Common.{◌≡◌, ◌≤◌, length, take, drop, reverse}
use Rattle.cert_check.specs.Schedules.{named}
use Rattle.cert_check.specs.Steps.Namings.{AreCountsAt}
use Rattle.cert_check.specs.Steps.Replays.{considered}
use Rattle.cert_check.proofs.considered.calls_before.Given as goal

abbrev pub decreases-loop-at : goal.decreases-loop-at
decreases-loop-at g l = l.at

-- what was found, last first, is what is considered from here on
abbrev pub invariant-loop-at : goal.invariant-loop-at
invariant-loop-at g l = (l.at ≤ l.place) × AreCountsAt l.list l.at (length l.h.1) l.naming.counts.items
    × (reverse l.found.items ≡ considered g.O.SeqObject.depends l.h l.v l.of l.asked (drop l.at (take l.place (named l.list))))
