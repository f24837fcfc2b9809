use Rattle.std.proofs.Common.{ℕ, ◌<◌, ◌≤◌}
use Rattle.order_causal.specs.Orders.{op}
use Rattle.order_memory.specs.Steps.GrowthSteps.{NoMore, Waits}
use Rattle.order_memory.specs.Steps.HappenedBefores.{HasGrown, IsReadFollowed, vectors_of, session_of}
use Rattle.order_memory.proofs.happened_before.HappenedBefore.follow_reads.Given as goal

-- the reads so far are followed
abbrev pub invariant-loop-index : goal.invariant-loop-index
invariant-loop-index l = record {
  grown : HasGrown l.h ⊥ l.fn.self l.self;
  followed : (j : ℕ) → l.raised.op.index ≤ j → j < l.index → IsReadFollowed l.h (Waits NoMore l.self.order) (vectors_of l.self) (op (session_of l.self) j) l.raised.session;
}
