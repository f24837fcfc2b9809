-- A report on the events of a log is one on the log.
use Rattle.std.proofs.Common.{Bool, List, subst}
use Rattle.log_events.specs.declared.event.Event.{Event}
use Rattle.app_logs.specs.Reports.{IsReportOn}
use Rattle.app_logs.proofs.ReportLaws.{judged}
use Rattle.app_logs.proofs.answering.judged_log.Goals as goal

pub returns-clause-answer : goal.returns-clause-answer
returns-clause-answer g c =
    judged c.args.judging c.args.reader.log c.in_ok-report.report c.answer_of_report.result
    (subst (λ (in_time : Bool). IsReportOn in_time c.args.reader.log.events c.in_ok-report.report) c.is_in_time-in_time.ensures
    (subst (λ (es : List Event). IsReportOn c.is_in_time-in_time.result es c.in_ok-report.report) c.into_log.ensures c.in_ok-report.ensures.report))
    c.answer_of_report.ensures.text c.answer_of_report.ensures.outcome
