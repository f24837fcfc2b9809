use Rattle.std.proofs.Common.{Option, subst}
use Rattle.std.specs.Prelude.{IfSome}
use Rattle.log_reader.specs.QuickSteps.{IsSaidOn}
use Rattle.log_reader.specs.Steps.{said_view}
use Rattle.log_reader.specs.declared.said.Said.{Said}
use Rattle.log_reader.proofs.TakeLaws.{if_error, line_refused, on_one, takes_said}
use Rattle.log_reader.proofs.taking.take_line.Goals as goal

pub returns-in-Some-clause-takes : goal.returns-in-Some-clause-takes
returns-in-Some-clause-takes c =
    let (full, (d, json, form)) = subst (λ (o : Option Said). IfSome o (λ said. IsSaidOn c.args.text.now (said_view said))) c.in-Some.is c.in_ok-said.ensures in
    on_one c.take_said.result _ _ c.take_said.ensures.added
    (takes_said c.args.line c.args.book.now c.args.text.now d (said_view c.in-Some.said) c.take_said.new.book full json form)

pub returns-in-Some-clause-fault : goal.returns-in-Some-clause-fault
returns-in-Some-clause-fault c =
    let (full, (d, json, form)) = subst (λ (o : Option Said). IfSome o (λ said. IsSaidOn c.args.text.now (said_view said))) c.in-Some.is c.in_ok-said.ensures in
    if_error c.take_said.result _ _ c.take_said.ensures.fault
    (λ fault. line_refused c.args.book.now c.args.text.now d (said_view c.in-Some.said) c.args.line fault full json form)
