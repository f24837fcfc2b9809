use Rattle.std.proofs.Common.{◌≡◌, drop}
use Rattle.live_cut_plan.specs.Steps.PlanStates.{first_of, return_of}
use Rattle.live_cut_plan.proofs.cut_plan.CutPlan.first_return.Given as goal

abbrev pub invariant-loop-s : goal.invariant-loop-s
invariant-loop-s l = first_of (return_of l.self.cap) 0 l.self.lanes ≡ first_of (return_of l.self.cap) l.s (drop l.s l.self.lanes)
