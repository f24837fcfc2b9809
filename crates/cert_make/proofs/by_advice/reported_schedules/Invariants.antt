use Rattle.std.proofs.Common.{IfOk}
use Rattle.order_causal.specs.BySession.{AreMadeBy}
use Rattle.order_causal.specs.Steps.Gathered.{AreListsOf}
use Rattle.cert_make.specs.ByAdvice.{IsToldSchedule}
use Rattle.cert_make.proofs.by_advice.reported_schedules.Given as goal

-- the sessions so far have the schedules that were reported
abbrev pub invariant-loop-session : goal.invariant-loop-session
invariant-loop-session g l =
    AreMadeBy {E = Unit} (λ s made. IfOk made (AreListsOf l.h (IsToldSchedule g.O.SeqObject.query l.h l.advice l.vectors l.ops) s)) l.session l.schedules
