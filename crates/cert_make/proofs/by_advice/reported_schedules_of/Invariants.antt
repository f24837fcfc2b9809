use Rattle.order_causal.specs.Steps.Gathered.{AreListsUpTo}
use Rattle.cert_make.specs.ByAdvice.{IsToldSchedule}
use Rattle.cert_make.proofs.by_advice.reported_schedules_of.Given as goal

-- the operations so far have their schedules
abbrev pub invariant-loop-index : goal.invariant-loop-index
invariant-loop-index g l = AreListsUpTo (IsToldSchedule g.O.SeqObject.query l.h l.advice l.vectors l.ops) l.session l.index l.schedules
