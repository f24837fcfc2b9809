use Rattle.std.proofs.Common.{ℕ, ◌-◌, ◌<◌, ◌≤◌}
use Rattle.std.specs.Prelude.{slice_index}
use Rattle.order_causal.specs.Orders.{op}
use Rattle.order_causal.specs.Vectors.{count}
use Rattle.order_memory.proofs.growing_order.GrowingOrder.first_behind.Given as goal

-- the index is between the two
abbrev pub invariant-loop-low : goal.invariant-loop-low
invariant-loop-low l = record {
  ordered : l.low ≤ l.high;
  inside : l.high ≤ slice_index l.self.past.items l.session;
  before : (i : ℕ) → i < l.low → count l.self.counts (op l.session i) l.op.session ≤ l.op.index;
  behind : (i : ℕ) → l.high ≤ i → i < slice_index l.self.past.items l.session → l.op.index < count l.self.counts (op l.session i) l.op.session;
}

-- how far they are apart
abbrev pub decreases-loop-low : goal.decreases-loop-low
decreases-loop-low l = l.high - l.low
