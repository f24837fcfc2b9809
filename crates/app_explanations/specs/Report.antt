-- What the lines of a report say, and when they are true.
use Rattle.std.specs.Prelude.{◌≡◌, ℕ, List, ◌++◌, codes, decimal, Some, None}
use Rattle.cert_check.specs.declared.criterion.Criterion.{Criterion}
use Rattle.cert_check.specs.declared.criterion.Criterion.TheVariants.{Cc, Cm, Ccv}
use Rattle.json_histories.specs.declared.any_history.AnyHistory.{AnyHistory}
use Rattle.json_histories.specs.AnyForm.{form_of, IsJson}
use Rattle.cert_check.specs.CriterionNames.{name_of}
use Rattle.pattern_check.specs.KindNames.{kind_name}
use Rattle.live_case_board.specs.declared.answer.Answer.{Answer}
use Rattle.live_case_board.specs.declared.answer.Answer.TheVariants.{Yes, No, Unknown, Open}
use Rattle.app_orders.specs.declared.length.Length.{Length}
use Rattle.app_orders.specs.declared.length.Length.TheVariants.{Limited, Any}
use Rattle.app_findings.specs.declared.finding.Findings.{Findings}
use Rattle.app_findings.specs.Findings.{EachIsFinding, EachIsKnownOnDistinctValues, EachIsLongTrueOf, EachIsTrueOf, EachNamesUnexplained, answer_of}
use Rattle.app_explanations.specs.Lengths.{IsHistoryOf}

-- each answer is true of a history, which may be that long
abbrev pub EachIsTrueAt : Length → AnyHistory → Findings → Type 0
EachIsTrueAt Limited history report = EachIsTrueOf history report
EachIsTrueAt Any history report = EachIsLongTrueOf history report

-- what `judge` may answer on a history, which may be that long: each answer is true of it, is unknown only where values are not distinct,
-- and names an operation only where it is the first that a certificate doesn't explain
pub record IsReportOf (long : Length) (history : AnyHistory) (report : Findings) : Type 0 where
  pub true_of : EachIsTrueAt long history report
  pub unknown : EachIsKnownOnDistinctValues history report
  pub unexplained : EachNamesUnexplained history report

-- what `explain` may show of such a history: findings of it, with answers that `judge` may give
pub record AreFindingsOf (long : Length) (history : AnyHistory) (findings : Findings) : Type 0 where
  pub each : EachIsFinding history findings
  pub report : IsReportOf long history findings

-- the criterion, a space, the answer, and a line feed; no report has an answer that is open
abbrev pub line_for : Criterion → Answer → List ℕ
line_for criterion (No kind) = name_of criterion ++ (codes " no " ++ (kind_name kind ++ codes "\n"))
line_for criterion Yes = name_of criterion ++ codes " yes\n"
line_for criterion (Unknown None) = name_of criterion ++ codes " unknown\n"
line_for criterion (Unknown (Some o)) =
    name_of criterion ++ (codes " unknown " ++ (decimal o.session ++ (codes "." ++ (decimal o.index ++ codes "\n"))))
line_for criterion (Open n) = name_of criterion ++ (codes " open " ++ (decimal n ++ codes "\n"))

-- the lines of a report, one after the other: those of the answers that its findings give
abbrev pub text_for : Findings → List ℕ
text_for report = line_for Cc (answer_of report.cc) ++ (line_for Cm (answer_of report.cm) ++ line_for Ccv (answer_of report.ccv))

-- the text is a report on the history in the input, which may be that long: the three lines of answers on that history
pub record IsReportAt (long : Length) (input text : List ℕ) : Type 0 where
  pub history : AnyHistory
  pub report : Findings
  pub is_history : IsHistoryOf long history
  pub read : IsJson input (form_of history)
  pub answers : IsReportOf long history report
  pub lines : text ≡ text_for report

-- the report is one on the history in the input
abbrev pub IsReportOnAt : Length → List ℕ → Findings → Type 0
IsReportOnAt long input report = (shown : IsReportAt long input (text_for report)) × (shown.report ≡ report)

-- a report on a history within the limits
abbrev pub IsReport : List ℕ → List ℕ → Type 0
IsReport input text = IsReportAt Limited input text
