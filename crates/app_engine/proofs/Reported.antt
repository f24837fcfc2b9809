-- A report on the history in an input.
use Rattle.std.proofs.Common.{◌≤◌, List, ℕ, refl, length, Option, None, Some, IfSome}
use Rattle.json_histories.specs.declared.any_history.AnyHistory.{AnyHistory}
use Rattle.json_histories.specs.AnyForm.{form_of, IsAnyHistory, IsJson}
use Rattle.json_histories.specs.declared.any_history.AnyHistory.TheVariants as histories
use Rattle.order_memory.specs.Memory.{MemoryHistory}
use Rattle.judge_memory.specs.LongHistories.{IsLongHistory}
use Rattle.app_orders.specs.declared.judging.Judging.{Judging}
use Rattle.app_orders.specs.declared.length.Length.{Length}
use Rattle.app_orders.specs.declared.length.Length.TheVariants.{Limited, Any}
use Rattle.app_orders.specs.declared.order.Order.TheVariants.{Judge}
use Rattle.app_engine.specs.declared.failure.RunError.{RunError}
use Rattle.app_engine.specs.declared.failure.RunError.TheVariants.{History, Script, BadCertificate, ShapeMismatch, NotThatPattern, BadLimits, NoSuch, TooLong, Memory, ReadFault, WriteFault}
use Rattle.app_engine.specs.declared.input.TheConstants.{MAX_INPUT_BYTES}
use Rattle.app_findings.specs.declared.finding.Findings.{Findings}
use Rattle.app_engine.specs.LineAnswers.{IsLineError}
use Rattle.app_engine.specs.Running.{IsOutputError}
use Rattle.app_engine.specs.Steps.ReportErrors.{IsReportError}
use Rattle.app_findings.specs.declared.kept.Kept.TheVariants.{Answers}
use Rattle.app_findings.specs.Findings.{EachIsFound, EachIsKnownOnDistinctValues, EachIsLongTrueOf, EachNamesUnexplained}
use Rattle.app_findings.proofs.Each.{found-known, found-names, found-true}
use Rattle.app_explanations.specs.Report.{IsReportOnAt}

-- what is found of the history that was read is a report on the input
pub reported : (input : List ℕ) (history : AnyHistory) (report : Findings) → IsAnyHistory history → IsJson input (form_of history)
    → EachIsFound Answers history report → IsReportOnAt Limited input report
reported input history report is read found = (
  record {
    history = history;
    report = report;
    is_history = is;
    read = read;
    answers = record {
      true_of = found-true Answers history report found;
      unknown = found-known Answers history report found;
      unexplained = found-names Answers history report found;
    };
    lines = refl;
  },
  refl,
)

-- the same where it may be that nothing is known
pub reported_known : (input : List ℕ) (history : AnyHistory) (known : Option Findings) → IsAnyHistory history → IsJson input (form_of history)
    → IfSome known (EachIsFound Answers history) → IfSome known (IsReportOnAt Limited input)
reported_known input history (Some report) is read found = reported input history report is read found
reported_known input history None is read found = tt

-- the same of a history of any length
pub reported_long : (input : List ℕ) (h : MemoryHistory) (report : Findings) → IsLongHistory h → IsJson input (form_of (histories.Memory h))
    → EachIsLongTrueOf (histories.Memory h) report → EachIsKnownOnDistinctValues (histories.Memory h) report
    → EachNamesUnexplained (histories.Memory h) report → IsReportOnAt Any input report
reported_long input h report is read true_of unknown unexplained = (
  record {
    history = histories.Memory h;
    report = report;
    is_history = is;
    read = read;
    answers = record { true_of = true_of; unknown = unknown; unexplained = unexplained };
    lines = refl;
  },
  refl,
)

-- an error in the place of a report is one of a run of `judge`, and of a line that is not too long
pub error_judged : (judging : Judging) (input : List ℕ) (e : RunError) → IsReportError judging.length input e → IsOutputError (Judge judging) input e
error_judged judging input Memory is = tt
error_judged judging input (History refusal) is = is
error_judged judging input (Script refusal) is = absurd is
error_judged judging input BadCertificate is = absurd is
error_judged judging input ShapeMismatch is = absurd is
error_judged judging input NotThatPattern is = absurd is
error_judged judging input BadLimits is = absurd is
error_judged judging input NoSuch is = absurd is
error_judged judging input TooLong is = absurd is
error_judged judging input ReadFault is = absurd is
error_judged judging input WriteFault is = absurd is

pub error_of_line : (long : Length) (line : List ℕ) (e : RunError) → length line ≤ MAX_INPUT_BYTES → IsReportError long line e → IsLineError long line e
error_of_line long line Memory within is = tt
error_of_line long line (History refusal) within is = (within, is)
error_of_line long line (Script refusal) within is = absurd is
error_of_line long line BadCertificate within is = absurd is
error_of_line long line ShapeMismatch within is = absurd is
error_of_line long line NotThatPattern within is = absurd is
error_of_line long line BadLimits within is = absurd is
error_of_line long line NoSuch within is = absurd is
error_of_line long line TooLong within is = absurd is
error_of_line long line ReadFault within is = absurd is
error_of_line long line WriteFault within is = absurd is
