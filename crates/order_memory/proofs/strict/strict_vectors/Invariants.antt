use Rattle.std.proofs.Common.{◌<◌, ◌≤◌, ℕ, length}
use Rattle.model_history.specs.History.{session}
use Rattle.order_causal.specs.Orders.{op}
use Rattle.order_memory.specs.Steps.GrowingOrders.{AreHeldVectors}
use Rattle.order_memory.specs.Steps.HappenedBefores.{AreStrictBefore}
use Rattle.order_memory.proofs.strict.strict_vectors.Given as goal

-- the operations of the sessions so far are left out
abbrev pub invariant-loop-session : goal.invariant-loop-session
invariant-loop-session l = record {
  held : AreHeldVectors l.h l.strict;
  strict : AreStrictBefore l.h l.vectors (op l.session 0) l.strict;
  short : (s : ℕ) → s < l.session → length (session l.h s) ≤ 256;
}
