-- What is explained of an input agrees with a report on it.
use Rattle.std.proofs.Common.{ℕ, List, subst}
use Rattle.json_histories.specs.declared.any_history.AnyHistory.{AnyHistory}
use Rattle.json_histories.specs.AnyForm.{form_of, IsJson}
use Rattle.app_orders.specs.declared.length.Length.{Length}
use Rattle.app_findings.specs.declared.finding.Findings.{Findings}
use Rattle.app_explanations.specs.Agreeing.{Agree}
use Rattle.app_explanations.specs.Lengths.{IsHistoryOf}
use Rattle.app_explanations.specs.Report.{AreFindingsOf, IsReportAt, IsReportOf}
use Rattle.app_explanations.proofs.Agreement.{reports_agree}
use Rattle.app_engine.proofs.Outcomes.{same_history}

pub findings_agree : (long : Length) (input text : List ℕ) (report : IsReportAt long input text) (history : AnyHistory) (findings : Findings)
    → IsHistoryOf long history → IsJson input (form_of history) → AreFindingsOf long history findings → Agree report.history report.report findings
findings_agree long input text report history findings is read are =
    reports_agree long report.history report.report findings report.answers
    (subst (λ (h : AnyHistory). IsReportOf long h findings) (same_history long input history report.history is report.is_history read report.read) are.report)
