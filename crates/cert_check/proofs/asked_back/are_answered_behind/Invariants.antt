use Rattle.std.proofs.Common.{◌≤◌, length}
use Rattle.order_causal.specs.Orders.{program_past}
use Rattle.cert_check.specs.Steps.Namings.{AreCountsAt}
use Rattle.cert_check.proofs.AskedBack.{AreAnsweredFrom}
use Rattle.cert_check.proofs.asked_back.are_answered_behind.Given as goal

abbrev pub decreases-loop-place : goal.decreases-loop-place
decreases-loop-place g l = l.place

-- the counts are those of the front of the schedule, and what is kept behind it is answered
abbrev pub invariant-loop-place : goal.invariant-loop-place
invariant-loop-place g l = (l.place ≤ length l.schedule) × AreCountsAt l.schedule l.place (length l.h.1) l.naming.counts.items
    × AreAnsweredFrom g.O.SeqObject.answer l.h (program_past l.op) l.schedule l.place
