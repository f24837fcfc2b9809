use Rattle.std.proofs.Common.{IfOk}
use Rattle.order_causal.specs.BySession.{AreMadeBy}
use Rattle.order_causal.specs.Steps.Gathered.{AreListsOf}
use Rattle.cert_make_cc.specs.BySources.{IsScheduleFor}
use Rattle.cert_make_cc.proofs.by_sources.schedules_by_sources.Given as goal

-- the sessions so far have the schedules of their operations
abbrev pub invariant-loop-session : goal.invariant-loop-session
invariant-loop-session l =
    AreMadeBy {E = Unit} (λ s made. IfOk made (AreListsOf l.order (IsScheduleFor l.order l.vectors) s)) l.session l.schedules
