use Rattle.live_cut_plan.specs.Walks.{Walks}
use Rattle.live_cut_plan.specs.Steps.PlanStates.{looks_left}
use Rattle.live_seals.proofs.walking.walk.Given as goal

abbrev pub invariant-loop-cell : goal.invariant-loop-cell
invariant-loop-cell g l = record {
  walks : Walks l.fn.plan (g.L.Looker.looks l.fn.looker) l.plan (g.L.Looker.looks l.looker);
  kept : g.L.Looker.keeps l.fn.looker l.looker;
}

abbrev pub decreases-loop-cell : goal.decreases-loop-cell
decreases-loop-cell g l = looks_left l.plan
