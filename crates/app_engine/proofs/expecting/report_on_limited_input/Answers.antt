use Rattle.app_engine.proofs.Reported.{reported}
use Rattle.app_engine.proofs.expecting.report_on_limited_input.Goals as goal

pub returns-clause-report : goal.returns-clause-report
returns-clause-report g c =
    reported c.args.input.now c.in_ok-history.history c.in_ok-answers.field-0 c.in_ok-history.ensures.is_history c.in_ok-history.ensures.form
    c.in_ok-answers.ensures
