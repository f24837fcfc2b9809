use Rattle.std.proofs.Common.{ℕ, ◌<◌, ◌≤◌, ◌-◌, length}
use Rattle.order_memory.specs.Steps.GrowthSteps.{GrowsWithin, NoReads}
use Rattle.order_causal.specs.Vectors.{count}
use Rattle.order_memory.proofs.growing_order.GrowingOrder.add_past.Given as goal

-- the sessions so far are counted
abbrev pub invariant-loop-session : goal.invariant-loop-session
invariant-loop-session l = record {
  within : GrowsWithin l.h NoReads l.fn.self l.self;
  past : (z : ℕ) → z < l.from → count l.self.counts l.before z ≤ count l.self.counts l.op z;
}

-- how many sessions are left
abbrev pub decreases-loop-session : goal.decreases-loop-session
decreases-loop-session l = length l.h.1 - l.from
