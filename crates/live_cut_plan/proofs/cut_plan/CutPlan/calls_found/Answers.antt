use Rattle.std.proofs.Common.{rules, ◌<◌, length, sym, ◌∙◌, subst}
use Rattle.live_cut_plan.specs.Walks.{Stands}
use Rattle.live_cut_plan.specs.Steps.PlanStates.{PlanState}
use Rattle.live_cut_plan.proofs.FoundCounts.{calls_counted, found_within}
use Rattle.live_cut_plan.proofs.ListPlaces.{read_at}
use Rattle.live_cut_plan.proofs.cut_plan.CutPlan.calls_found.Goals as goal

pub returns-then-s-len : goal.returns-then-s-len
returns-then-s-len c = λ p stands less.
    let st : PlanState = record { cap = c.self.inside.cap; lanes = c.self.inside.lanes.items } in
    let within : c.args.s < length c.self.inside.lanes.items = search rules in
    let at = read_at c.self.inside.lanes.items c.args.s c.index.result.now within c.index.ensures in
    let now = subst (λ x. Stands x p) (sym c.self.view_is) stands in
    c.found.ensures (found_within st p now c.args.s c.index.result.now at) ∙ sym (calls_counted st p now c.args.s c.index.result.now at)
