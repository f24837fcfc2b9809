use Rattle.std.proofs.Common.{◌≡◌, replicate}
use Rattle.order_causal.specs.Steps.Gathered.{AreListsUpTo}
use Rattle.cert_make.specs.ByProgramOrder.{IsOwnSchedule}
use Rattle.cert_make.proofs.program_schedules.schedules_of.Given as goal

-- the operations so far have their schedules, and the schedule is that of the last of them
abbrev pub invariant-loop-index : goal.invariant-loop-index
invariant-loop-index g l = record {
  so_far : AreListsUpTo IsOwnSchedule l.session l._index l.schedules;
  schedule : l.schedule.items ≡ replicate l._index l.session;
}
