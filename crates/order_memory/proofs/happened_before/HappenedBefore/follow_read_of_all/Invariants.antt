use Rattle.std.proofs.Common.{ℕ, ◌<◌}
use Rattle.order_causal.specs.Orders.{op}
use Rattle.order_memory.specs.Steps.GrowthSteps.{NoMore, Waits}
use Rattle.order_memory.specs.Steps.HappenedBefores.{HasGrown, IsReadFollowed, vectors_of, session_of}
use Rattle.order_memory.proofs.happened_before.HappenedBefore.follow_read_of_all.Given as goal

-- the sessions so far are followed
abbrev pub invariant-loop-session : goal.invariant-loop-session
invariant-loop-session l = record {
  grown : HasGrown l.h ⊥ l.fn.self l.self;
  followed : (u : ℕ) → u < l.session → IsReadFollowed l.h (Waits NoMore l.self.order) (vectors_of l.self) (op (session_of l.self) l.fn.index) u;
}
