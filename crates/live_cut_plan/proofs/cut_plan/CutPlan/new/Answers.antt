use Rattle.std.proofs.Common.{◌≡◌, rules, length, refl}
use Rattle.live_cut_plan.specs.Steps.PlanStates.{PlanState}
use Rattle.live_cut_plan.proofs.PlanLooks.{stands_new}
use Rattle.live_cut_plan.proofs.Standing.{stands_fresh}
use Rattle.live_cut_plan.proofs.cut_plan.CutPlan.new.Goals as goal

pub invariant_of-result : goal.invariant_of-result
invariant_of-result c =
    let st : PlanState = record { cap = c.args.cap; lanes = c.loop-s.lanes.items } in
    let many : length c.loop-s.lanes.items ≡ c.args.k = search rules in
    stands_new c.args.k c.args.cap c.args.told.now st c.requires.many c.requires.within (stands_fresh c.args.k c.args.cap c.args.told.now st c.requires.within refl many c.loop-s.invariant.each)
