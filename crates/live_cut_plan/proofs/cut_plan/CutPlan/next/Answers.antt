use Rattle.live_cut_plan.proofs.Standing.{first_rule, second_rule}
use Rattle.live_cut_plan.proofs.cut_plan.CutPlan.next.Goals as goal

pub returns-in-Some-clause-rule : goal.returns-in-Some-clause-rule
returns-in-Some-clause-rule c = λ p s. first_rule c.args.self.now p s c.in-Some.cell c.in-Some.ensures

pub returns-in-None-clause-rule : goal.returns-in-None-clause-rule
returns-in-None-clause-rule c = λ p s. second_rule c.args.self.now p s c.first_call.result c.in-None.ensures c.first_call.ensures
