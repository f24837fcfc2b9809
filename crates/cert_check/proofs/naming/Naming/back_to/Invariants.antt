use Rattle.std.proofs.Common.{◌≤◌, ◌<◌, length, take}
use Rattle.order_causal.specs.Schedules.{placed}
use Rattle.cert_check.specs.Steps.Namings.{AreCountsAt}
use Rattle.cert_check.proofs.naming.Naming.back_to.Given as goal

abbrev pub decreases-loop-place : goal.decreases-loop-place
decreases-loop-place l = l.place

-- the counts are those of the front of the list, in which the operation is named
abbrev pub invariant-loop-place : goal.invariant-loop-place
invariant-loop-place l = (l.place ≤ length l.list) × AreCountsAt l.list l.place (length l.initial.self.counts.items) l.self.counts.items
    × (l.op.index < placed (take l.place l.list) l.op.session)
