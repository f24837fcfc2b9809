use Rattle.order_causal.specs.Orders.{op}
use Rattle.order_causal.specs.Vectors.{Counts}
use Rattle.order_memory.specs.Steps.GrowingOrders.{AreHeldVectors}
use Rattle.order_memory.specs.Steps.HappenedBefores.{AreStrictBefore}
use Rattle.order_memory.proofs.strict.leave_out_own.Given as goal

-- the operations so far are left out
abbrev pub invariant-loop-index : goal.invariant-loop-index
invariant-loop-index l = record {
  held : AreHeldVectors l.h l.strict;
  strict : (v : Counts) → AreStrictBefore l.h v (op l.session 0) l.fn.strict → AreStrictBefore l.h v (op l.session l.index) l.strict;
}
