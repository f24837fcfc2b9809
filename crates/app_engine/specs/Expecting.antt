-- What comes of a report where criteria are expected to be met.
use Rattle.std.specs.Prelude.{◌≡◌, ℕ, Bool, true, false, List}
use Rattle.live_case_board.specs.declared.answer.Answer.{Answer}
use Rattle.live_case_board.specs.declared.answer.Answer.TheVariants.{Yes, No, Unknown, Open}
use Rattle.app_orders.specs.declared.expected.Expected.{Expected}
use Rattle.json_lines.specs.declared.outcome.Outcome.{Outcome}
use Rattle.json_lines.specs.declared.outcome.Outcome.TheVariants as outcomes
use Rattle.json_lines.specs.Outcomes.{worse}
use Rattle.app_findings.specs.declared.finding.Findings.{Findings}
use Rattle.app_findings.specs.Findings.{answer_of}
use Rattle.app_orders.specs.declared.length.Length.{Length}
use Rattle.app_explanations.specs.Report.{IsReportOnAt, text_for}

-- what comes of the answer for a criterion that is expected to be met, or isn't
abbrev pub outcome_in : Bool → Answer → Outcome
outcome_in false answer = outcomes.Met
outcome_in true Yes = outcomes.Met
outcome_in true (No kind) = outcomes.Excluded
outcome_in true (Unknown place) = outcomes.Unknown
outcome_in true (Open n) = outcomes.Unknown

-- what comes of a report: a no to a criterion that is expected counts more than an unknown
abbrev pub outcome_for : Expected → Findings → Outcome
outcome_for expected report =
    worse (outcome_in expected.cc (answer_of report.cc)) (worse (outcome_in expected.cm (answer_of report.cm)) (outcome_in expected.ccv (answer_of report.ccv)))

-- the text has the lines of a report on the history in the input, and this comes of that report
pub record IsOutcomeOfReport (long : Length) (expected : Expected) (input text : List ℕ) (outcome : Outcome) : Type 0 where
  pub report : Findings
  pub reported : IsReportOnAt long input report
  pub lines : text ≡ text_for report
  pub comes : outcome ≡ outcome_for expected report
