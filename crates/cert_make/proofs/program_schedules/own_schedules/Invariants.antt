use Rattle.std.proofs.Common.{IfOk}
use Rattle.order_causal.specs.BySession.{AreMadeBy}
use Rattle.order_causal.specs.Steps.Gathered.{AreListsOf}
use Rattle.cert_make.specs.ByProgramOrder.{IsOwnSchedule}
use Rattle.cert_make.proofs.program_schedules.own_schedules.Given as goal

-- the sessions so far have the schedules of their operations
abbrev pub invariant-loop-session : goal.invariant-loop-session
invariant-loop-session g l =
    AreMadeBy {E = Unit} (λ s made. IfOk made (AreListsOf l.h IsOwnSchedule s)) l.session l.schedules
