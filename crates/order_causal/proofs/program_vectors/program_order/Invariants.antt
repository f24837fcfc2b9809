use Rattle.std.proofs.Common.{length, IfOk}
use Rattle.order_causal.specs.BySession.{AreMadeBy}
use Rattle.order_causal.specs.ProgramOrder.{IsOwnVector}
use Rattle.order_causal.specs.Steps.Gathered.{AreListsOf}
use Rattle.order_causal.proofs.program_vectors.program_order.Given as goal

-- the sessions so far have the vectors of their operations
abbrev pub invariant-loop-session : goal.invariant-loop-session
invariant-loop-session g l =
    AreMadeBy {E = Unit} (λ s made. IfOk made (AreListsOf l.h (IsOwnVector (length l.h.1)) s)) l.session l.vectors
