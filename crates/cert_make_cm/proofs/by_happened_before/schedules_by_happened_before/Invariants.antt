use Rattle.order_causal.specs.Steps.Gathered.{AreGatheredBefore}
use Rattle.cert_make_cm.specs.ByTurns.{TakesTurns}
use Rattle.cert_make_cm.proofs.by_happened_before.schedules_by_happened_before.Given as goal

-- the sessions so far have their schedules
abbrev pub invariant-loop-session : goal.invariant-loop-session
invariant-loop-session l = AreGatheredBefore l.order (TakesTurns l.order) l.session l.schedules
