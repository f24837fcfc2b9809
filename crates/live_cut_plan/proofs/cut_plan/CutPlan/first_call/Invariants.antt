use Rattle.std.proofs.Common.{◌≡◌, drop}
use Rattle.live_cut_plan.specs.Steps.PlanStates.{first_of, call_of}
use Rattle.live_cut_plan.proofs.cut_plan.CutPlan.first_call.Given as goal

abbrev pub invariant-loop-s : goal.invariant-loop-s
invariant-loop-s l = first_of (call_of l.self.cap) 0 l.self.lanes ≡ first_of (call_of l.self.cap) l.s (drop l.s l.self.lanes)
