use Rattle.std.proofs.Common.{◌≡◌, ℕ, ◌<◌, ◌≤◌}
use Rattle.std.specs.Prelude.{max, slice_index}
use Rattle.order_memory.specs.Steps.GrowthSteps.{IsGrowing, IsInclusion}
use Rattle.order_causal.specs.Vectors.{count}
use Rattle.order_memory.proofs.growing_order.GrowingOrder.include_past.Given as goal

-- what the vector counts of the sessions so far is in
abbrev pub invariant-loop-session : goal.invariant-loop-session
invariant-loop-session l = record {
  growing : IsGrowing l.h l.self;
  inclusion : IsInclusion l.h l.fn.self l.self;
  below : (s : ℕ) → s < l.session → slice_index l.self.past.items s ≡ max (slice_index l.fn.self.past.items s) (count l.fn.self.counts l.op s);
  rest : (s : ℕ) → l.session ≤ s → slice_index l.self.past.items s ≡ slice_index l.fn.self.past.items s;
}
