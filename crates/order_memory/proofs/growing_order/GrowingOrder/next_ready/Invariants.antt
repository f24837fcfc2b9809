use Rattle.std.proofs.Common.{ℕ, ◌<◌}
use Rattle.order_memory.specs.Steps.TakingIn.{IsNextReady}
use Rattle.order_memory.proofs.growing_order.GrowingOrder.next_ready.Given as goal

-- none of the sessions so far is ready
abbrev pub invariant-loop-session : goal.invariant-loop-session
invariant-loop-session l = (t : ℕ) → t < l.session → ¬ IsNextReady l.sources l.self l.op t
