use Rattle.std.proofs.Common.{◌∙◌}
use Rattle.cert_check.proofs.NeedSteps.{list_before, none_before}
use Rattle.cert_check.proofs.need.before.Goals as goal

pub returns-in-Some : goal.returns-in-Some
returns-in-Some c = c.get.ensures ∙ list_before c.args.v.now c.args.op c.in-Some.before c.in-Some.ensures.0 c.in-Some.ensures.1

pub returns-in-None : goal.returns-in-None
returns-in-None c = none_before c.args.v.now c.args.op c.in-None.ensures
