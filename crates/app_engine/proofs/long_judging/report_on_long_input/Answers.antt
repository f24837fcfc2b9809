use Rattle.app_engine.proofs.Reported.{reported_long}
use Rattle.app_engine.proofs.long_judging.report_on_long_input.Goals as goal

pub returns-clause-report : goal.returns-clause-report
returns-clause-report g c =
    let found = c.in_ok-report.ensures in
    reported_long c.args.input.now c.in_ok-history.history c.in_ok-report.field-0 c.in_ok-history.ensures.is_history c.in_ok-history.ensures.form found.truth
    found.unknown found.unexplained
