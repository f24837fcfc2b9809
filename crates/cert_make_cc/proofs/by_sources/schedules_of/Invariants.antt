use Rattle.std.proofs.Common.{◌≡◌, length}
use Rattle.order_causal.specs.Steps.Gathered.{AreListsUpTo}
use Rattle.cert_make_cc.specs.BySources.{IsScheduleFor}
use Rattle.cert_make_cc.specs.Steps.Cuts.{IsCut}
use Rattle.cert_make_cc.proofs.by_sources.schedules_of.Given as goal

-- the operations so far have their schedules
abbrev pub invariant-loop-index : goal.invariant-loop-index
invariant-loop-index l = record {
  so_far : AreListsUpTo (IsScheduleFor l.order l.vectors) l.session l.index l.schedules;
  size : length l.cutting.limits.items ≡ length l.vectors;
  cut : IsCut l.whole l.cutting.limits.items l.cutting.starts.items l.cutting.walk;
}
