-- What is answered to a line that is a history.
use Rattle.std.specs.Prelude.{◌≡◌, ◌-◌, ◌<◌, ◌≤◌, ◌⊎◌, ⊤, true, ℕ, List, [], ◌++◌, codes, length, take}
use Rattle.cert_check.specs.declared.criterion.Criterion.TheVariants.{Cc, Cm, Ccv}
use Rattle.app_orders.specs.declared.expected.Expected.{Expected}
use Rattle.app_orders.specs.declared.length.Length.{Length}
use Rattle.app_orders.specs.declared.line_judging.BlankLines.{BlankLines}
use Rattle.app_orders.specs.declared.line_judging.BlankLines.TheVariants.{Skipped}
use Rattle.app_orders.specs.declared.line_judging.LineJudging.{LineJudging}
use Rattle.json_lines.specs.declared.outcome.Outcome.{Outcome}
use Rattle.json_lines.specs.declared.outcome.Outcome.TheVariants.{Met, Refused}
use Rattle.json_lines.specs.Lines.{AreAnswered, is_blank, lines_of}
use Rattle.app_engine.specs.declared.failure.RunError.{RunError}
use Rattle.app_engine.specs.declared.failure.RunError.TheVariants.{History, TooLong, Memory}
use Rattle.app_engine.specs.declared.input.TheConstants.{MAX_INPUT_BYTES}
use Rattle.app_findings.specs.declared.finding.Findings.{Findings}
use Rattle.app_findings.specs.Findings.{answer_of}
use Rattle.app_engine.specs.Expecting.{outcome_for}
use Rattle.app_engine.specs.Failure.{failure_status, line_for as fault_line_for}
use Rattle.app_explanations.specs.Lengths.{IsRefusedAs}
use Rattle.app_explanations.specs.Report.{IsReportOnAt, line_for}

-- a line without its line feed
abbrev pub unended : List ℕ → List ℕ
unended line = take (length line - 1) line

-- the lines of a report, joined to one without its line feed
abbrev pub joined_for : Findings → List ℕ
joined_for report =
    unended (line_for Cc (answer_of report.cc)) ++ (codes "; " ++ (unended (line_for Cm (answer_of report.cm)) ++ (codes "; " ++ unended (line_for Ccv (answer_of report.ccv)))))

module _ (long : Length) where
  -- what can come of a line in the place of a report: it is too long, or its history is refused, or memory ran out
  abbrev pub IsLineError : List ℕ → RunError → Type 0
  IsLineError line Memory = ⊤
  IsLineError line TooLong = MAX_INPUT_BYTES < length line
  IsLineError line (History refusal) = (length line ≤ MAX_INPUT_BYTES) × IsRefusedAs long line refusal
  IsLineError line _ = ⊥

  -- the text has the lines of a report on the history in the line, which is not too long, and this comes of the report
  abbrev pub IsLineReport : Expected → List ℕ → List ℕ → Outcome → Type 0
  IsLineReport expected line text outcome =
      (report : Findings) × (length line ≤ MAX_INPUT_BYTES) × IsReportOnAt long line report × (text ≡ joined_for report)
      × (outcome ≡ outcome_for expected report)

  -- the text says why the line is refused
  abbrev pub IsLineRefusal : List ℕ → List ℕ → Outcome → Type 0
  IsLineRefusal line text outcome =
      (error : RunError) × IsLineError line error × (failure_status error ≡ 1) × (text ≡ fault_line_for error) × (outcome ≡ Refused)

  -- the text answers the line, which is to hold a history
  abbrev pub IsHistoryAnswer : Expected → List ℕ → List ℕ → Outcome → Type 0
  IsHistoryAnswer expected line text outcome = IsLineReport expected line text outcome ⊎ IsLineRefusal line text outcome

-- the line is blank, and such lines are skipped. One that is too long is not
pub record IsSkipped (blank : BlankLines) (line : List ℕ) : Type 0 where
  pub skipped : blank ≡ Skipped
  pub short : length line ≤ MAX_INPUT_BYTES
  pub blank_line : is_blank line ≡ true

-- nothing answers a line that is skipped, and nothing comes of it
abbrev pub IsBlankAnswer : BlankLines → List ℕ → List ℕ → Outcome → Type 0
IsBlankAnswer blank line text outcome = IsSkipped blank line × (text ≡ []) × (outcome ≡ Met)

module _ (judging : LineJudging) where
  -- the text answers the line
  abbrev pub IsLineAnswer : List ℕ → List ℕ → Outcome → Type 0
  IsLineAnswer line text outcome =
      IsBlankAnswer judging.blank line text outcome
      ⊎ ((¬ IsSkipped judging.blank line) × IsHistoryAnswer judging.judging.length judging.judging.expected line text outcome)

  -- the text answers each line of the input, one after the other in their order
  abbrev pub IsLinesAnswer : List ℕ → List ℕ → Type 0
  IsLinesAnswer input text = (outcome : Outcome) × AreAnswered IsLineAnswer (lines_of input) text outcome
