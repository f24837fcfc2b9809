use Rattle.std.proofs.Common.{◌≡◌, ℕ, length, get_or}
use Rattle.std.specs.Prelude.{slice_get, Some}
use Rattle.live_cut_plan.specs.declared.lane_plan.LanePlan.{LanePlan}
use Rattle.live_cut_plan.specs.Steps.PlanStates.{fresh_lane}
use Rattle.live_cut_plan.proofs.cut_plan.CutPlan.new.Given as goal

abbrev pub invariant-loop-s : goal.invariant-loop-s
invariant-loop-s l = record {
  many : length l.lanes.items ≡ l.s;
  each : (s : ℕ) (lane : LanePlan) → slice_get l.lanes.items s ≡ Some lane → lane ≡ fresh_lane (get_or l.told s 0);
}
