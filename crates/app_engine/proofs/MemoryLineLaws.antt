-- The lines of a report on a memory are true of its history.
use Rattle.std.proofs.Common.{◌≡◌, ℕ, List, Option, Some, None, ◌++◌, codes, decimal, refl, subst, inl, inr}
use Rattle.order_memory.specs.Memory.{MemoryHistory}
use Rattle.json_histories.specs.declared.any_history.AnyHistory.{AnyHistory}
use Rattle.json_histories.specs.declared.any_history.AnyHistory.TheVariants as histories
use Rattle.json_histories.specs.AnyForm.{form_of, IsJson}
use Rattle.cert_check.specs.declared.criterion.Criterion.{Criterion}
use Rattle.cert_check.specs.declared.criterion.Criterion.TheVariants.{Cc, Cm, Ccv}
use Rattle.live_case_board.specs.declared.answer.Answer.{Answer}
use Rattle.live_case_board.specs.declared.answer.Answer.TheVariants.{Yes, No, Unknown, Open}
use Rattle.app_orders.specs.declared.judging.Judging.{Judging}
use Rattle.app_orders.specs.declared.length.Length.{Length}
use Rattle.app_orders.specs.declared.length.Length.TheVariants.{Limited, Any}
use Rattle.app_orders.specs.declared.order.Order.{Order}
use Rattle.app_orders.specs.declared.order.Order.TheVariants.{Judge}
use Rattle.app_engine.specs.declared.failure.RunError.{RunError}
use Rattle.std.specs.Prelude.{Result, Ok, Err, IfOk}
use Rattle.json_lines.specs.declared.outcome.Outcome.{Outcome}
use Rattle.app_findings.specs.declared.finding.Findings.{Findings}
use Rattle.app_findings.specs.Answers.{IsKnownOnDistinctValues, IsLongTrueOf, IsTrueOf}
use Rattle.app_findings.specs.Findings.{EachIsKnownOnDistinctValues, answer_for}
use Rattle.app_explanations.specs.Lengths.{IsHistoryOf}
use Rattle.app_explanations.specs.Report.{EachIsTrueAt, IsReportAt, line_for}
use Rattle.app_engine.specs.MemoryLines.{AreTrueLines, IsTrueLine, JudgesMemory}
use Rattle.app_engine.specs.Running.{Completes}
use Rattle.app_engine.proofs.Outcomes.{reported_history, reported_long}

module _ (h : MemoryHistory) (criterion : Criterion) where
  -- the line of an answer that is true, and unknown only where values are not distinct
  line_of_true : (answer : Answer) → IsTrueOf (histories.Memory h) criterion answer → IsKnownOnDistinctValues (histories.Memory h) answer
      → IsTrueLine h criterion (line_for criterion answer)
  line_of_true Yes met known = inl (refl, met)
  line_of_true (No kind) excluded known = inr (inl (kind, refl, excluded.0))
  line_of_true (Unknown None) said known = inr (inr (codes "\n", refl, known))
  line_of_true (Unknown (Some o)) said known =
      inr (inr (codes " " ++ (decimal o.session ++ (codes "." ++ (decimal o.index ++ codes "\n"))), refl, known))
  line_of_true (Open n) said known = absurd said

  line_of_long_true : (answer : Answer) → IsLongTrueOf (histories.Memory h) criterion answer → IsKnownOnDistinctValues (histories.Memory h) answer
      → IsTrueLine h criterion (line_for criterion answer)
  line_of_long_true Yes met known = inl (refl, met)
  line_of_long_true (No kind) excluded known = inr (inl (kind, refl, excluded.excluded))
  line_of_long_true (Unknown None) said known = inr (inr (codes "\n", refl, known))
  line_of_long_true (Unknown (Some o)) said known =
      inr (inr (codes " " ++ (decimal o.session ++ (codes "." ++ (decimal o.index ++ codes "\n"))), refl, known))
  line_of_long_true (Open n) said known = absurd said

-- a report on a history within the limits, and on one of any length
line_at : (long : Length) (h : MemoryHistory) (report : Findings) → EachIsTrueAt long (histories.Memory h) report
    → EachIsKnownOnDistinctValues (histories.Memory h) report → (criterion : Criterion) → IsTrueLine h criterion (line_for criterion (answer_for report criterion))
line_at Limited h report true_of known criterion = line_of_true h criterion (answer_for report criterion) (true_of criterion) (known criterion)
line_at Any h report true_of known criterion = line_of_long_true h criterion (answer_for report criterion) (true_of.each criterion) (known criterion)

pub lines_of_report : (long : Length) (h : MemoryHistory) (report : Findings) (text : List ℕ) → EachIsTrueAt long (histories.Memory h) report
    → EachIsKnownOnDistinctValues (histories.Memory h) report
    → text ≡ line_for Cc (answer_for report Cc) ++ (line_for Cm (answer_for report Cm) ++ line_for Ccv (answer_for report Ccv)) → AreTrueLines h text
lines_of_report long h report text true_of known lines = record {
  cc = line_for Cc (answer_for report Cc);
  cm = line_for Cm (answer_for report Cm);
  ccv = line_for Ccv (answer_for report Ccv);
  lines = lines;
  cc_true = line_at long h report true_of known Cc;
  cm_true = line_at long h report true_of known Cm;
  ccv_true = line_at long h report true_of known Ccv;
}

-- the history of a report is the one whose form the input is
same_history : (long : Length) (h : MemoryHistory) (input text : List ℕ) → IsHistoryOf long (histories.Memory h) → IsJson input (form_of (histories.Memory h))
    → (report : IsReportAt long input text) → report.history ≡ histories.Memory h
same_history Limited h input text is json report = reported_history input text (histories.Memory h) is json report
same_history Any h input text is json report = reported_long input text h is json report

pub report_lines : (long : Length) (input text : List ℕ) → IsReportAt long input text → (h : MemoryHistory) → IsHistoryOf long (histories.Memory h)
    → IsJson input (form_of (histories.Memory h)) → AreTrueLines h text
report_lines long input text report h is json =
    let same : report.history ≡ histories.Memory h = same_history long h input text is json report in
    lines_of_report long h report.report text
    (subst (λ (history : AnyHistory). EachIsTrueAt long history report.report) same report.answers.true_of)
    (subst (λ (history : AnyHistory). EachIsKnownOnDistinctValues history report.report) same report.answers.unknown) report.lines

-- a run of `judge` that completes
pub completed_judge : (judging : Judging) (reader before after : Option (List ℕ)) (outcome : Outcome) → Completes (Judge judging) reader before after outcome
    → JudgesMemory judging.length reader before after
completed_judge judging reader before after outcome completes = record {
  input = completes.input;
  text = completes.text;
  whole = completes.whole;
  lines = report_lines judging.length completes.input completes.text completes.output;
  written = completes.written;
}

-- the same of what a run gives, if its order is to judge
pub result_judged : (order : Order) (judging : Judging) (reader before after : Option (List ℕ)) (result : Result Outcome RunError)
    → order ≡ Judge judging → IfOk result (Completes order reader before after) → IfOk result (λ _. JudgesMemory judging.length reader before after)
result_judged order judging reader before after (Ok outcome) same completes =
    completed_judge judging reader before after outcome (subst (λ (o : Order). Completes o reader before after outcome) same completes)
result_judged order judging reader before after (Err error) same completes = completes
