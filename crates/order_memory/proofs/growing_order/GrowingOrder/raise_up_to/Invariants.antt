use Rattle.std.proofs.Common.{◌-◌}
use Rattle.std.specs.Prelude.{slice_index}
use Rattle.order_memory.specs.Steps.GrowthSteps.{IsRaisedTo}
use Rattle.order_memory.proofs.growing_order.GrowingOrder.raise_up_to.Given as goal

-- what was raised so far
abbrev pub invariant-loop-end : goal.invariant-loop-end
invariant-loop-end l = IsRaisedTo l.h l.fn.self l.self l.session l.index l.end l.other l.number l.cause

-- how many operations of the session are left
abbrev pub decreases-loop-end : goal.decreases-loop-end
decreases-loop-end l = slice_index l.self.past.items l.session - l.end
