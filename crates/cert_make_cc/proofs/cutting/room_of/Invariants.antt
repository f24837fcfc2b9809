use Rattle.std.proofs.Common.{◌≤◌, ◌*◌}
use Rattle.order_causal.proofs.Walked.{room}
use Rattle.cert_make_cc.proofs.cutting.room_of.Given as goal

-- the sum so far is at least the room that the limits so far leave
abbrev pub invariant-loop-session : goal.invariant-loop-session
invariant-loop-session l = (room l.session l.limits l.walk ≤ l.room) × (l.room ≤ l.session * 65536)
