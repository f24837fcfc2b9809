use Rattle.std.proofs.Common.{ℕ, ◌<◌, ◌≤◌}
use Rattle.std.specs.Prelude.{slice_index}
use Rattle.order_causal.specs.Orders.{op}
use Rattle.order_causal.specs.Vectors.{count}
use Rattle.order_memory.proofs.growing_order.GrowingOrder.near_end.Given as goal

-- what is from the index on comes behind the operation
abbrev pub invariant-loop-step : goal.invariant-loop-step
invariant-loop-step l = record {
  some : 1 ≤ l.step;
  few : l.high ≤ 256;
  inside : l.high ≤ slice_index l.self.past.items l.session;
  behind : (i : ℕ) → l.high ≤ i → i < slice_index l.self.past.items l.session → l.op.index < count l.self.counts (op l.session i) l.op.session;
}

-- how many operations may come behind it besides
abbrev pub decreases-loop-step : goal.decreases-loop-step
decreases-loop-step l = l.high
