use Rattle.std.proofs.Common.{◌-◌, length}
use Rattle.order_memory.proofs.Joined.{IsJoinedUpTo}
use Rattle.order_memory.proofs.growing_order.GrowingOrder.join_past.Given as goal

-- the sessions so far are counted
abbrev pub invariant-loop-session : goal.invariant-loop-session
invariant-loop-session l = IsJoinedUpTo l.h l.fn.self l.self l.op l.before l.from

-- how many sessions are left
abbrev pub decreases-loop-session : goal.decreases-loop-session
decreases-loop-session l = length l.h.1 - l.from
