use Rattle.std.proofs.Common.{◌-◌, length}
use Rattle.std.specs.Prelude.{slice_index}
use Rattle.model_history.specs.History.{session}
use Rattle.order_memory.specs.CountSums.{sum_below}
use Rattle.order_memory.specs.Steps.TakingIn.{TakesSome}
use Rattle.order_memory.proofs.growing_order.GrowingOrder.take_past.Given as goal

-- some of what the vector counts is taken in
abbrev pub invariant-loop-session : goal.invariant-loop-session
invariant-loop-session l = TakesSome l.h l.fn.self l.self l.op

-- how many operations are left
abbrev pub decreases-loop-session : goal.decreases-loop-session
decreases-loop-session l = sum_below (λ t. length (session l.h t) - slice_index l.self.past.items t) (length l.h.1)
