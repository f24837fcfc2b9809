use Rattle.std.proofs.Common.{◌-◌, length}
use Rattle.std.specs.Prelude.{slice_index}
use Rattle.model_history.specs.History.{session}
use Rattle.order_memory.specs.CountSums.{sum_below}
use Rattle.order_memory.specs.Steps.TakingIn.{TakesSome}
use Rattle.order_memory.proofs.growing_order.GrowingOrder.take_in_ready.Given as goal

-- some of what the vector counts is taken in
abbrev pub invariant-loop-index : goal.invariant-loop-index
invariant-loop-index l = TakesSome l.h l.fn.self l.self l.op

-- how many operations are left
abbrev pub decreases-loop-index : goal.decreases-loop-index
decreases-loop-index l = sum_below (λ t. length (session l.h t) - slice_index l.self.past.items t) (length l.h.1)
