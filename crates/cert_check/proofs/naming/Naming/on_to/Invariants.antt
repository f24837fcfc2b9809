use Rattle.std.proofs.Common.{◌≤◌, length, take}
use Rattle.order_causal.specs.Schedules.{placed}
use Rattle.cert_check.specs.Steps.Namings.{AreCountsAt}
use Rattle.cert_check.proofs.naming.Naming.on_to.Given as goal

-- the counts are those of the list so far, in which the operation is not named
abbrev pub invariant-loop-place : goal.invariant-loop-place
invariant-loop-place g l = AreCountsAt l.list l.place (length l.h.1) l.self.counts.items × (placed (take l.place l.list) l.op.session ≤ l.op.index)
