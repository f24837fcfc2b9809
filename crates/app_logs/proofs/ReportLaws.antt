-- What is said of a log by what is forced of its null reads.
use Rattle.std.proofs.Common.{◌≡◌, ℕ, Bool, List, [], ◌++◌, codes, subst, ap, ◌∙◌, rules}
use Rattle.std.specs.Prelude.{Result, Ok, Err, IfOk, string_bytes}
use Rattle.order_memory.specs.Memory.{MemoryHistory}
use Rattle.json_histories.specs.declared.any_history.AnyHistory.TheVariants as histories
use Rattle.json_histories.specs.AnyForm.{form_of}
use Rattle.json_lines.specs.declared.outcome.Outcome.{Outcome}
use Rattle.json_lines.specs.declared.outcome.Outcome.TheVariants.{Met}
use Rattle.serde_json.specs.Written.{compact_text}
use Rattle.log_events.specs.declared.event.Event.{Event}
use Rattle.log_choices.specs.declared.seen.Seen.{Seen}
use Rattle.log_reader.specs.Logs.{Log}
use Rattle.app_orders.specs.declared.log_order.LogJudging.{LogJudging}
use Rattle.app_orders.specs.declared.log_order.LogOrder.{LogOrder}
use Rattle.app_orders.specs.declared.log_order.LogOrder.TheVariants.{Judge, WriteHistory, WriteNames, WriteNotes}
use Rattle.app_findings.specs.Findings.{EachIsKnownOnDistinctValues, EachIsLongTrueOf, EachNamesUnexplained}
use Rattle.app_findings.specs.declared.finding.Findings.{Findings}
use Rattle.app_explanations.specs.Report.{text_for}
use Rattle.app_engine.specs.Expecting.{outcome_for}
use Rattle.app_engine.specs.declared.answered.Answered.{Answered}
use Rattle.app_logs.specs.declared.failure.LogError.{LogError}
use Rattle.app_logs.specs.LogAnswers.{IsLogAnswer, IsLogAnswerBy}
use Rattle.app_logs.specs.LogTexts.{AreNames}
use Rattle.app_logs.specs.Notes.{AreNotes}
use Rattle.app_logs.specs.Reports.{IsForcedHistory, IsForcedIn, IsReportOn}

-- a report on the history by what is forced is a report on the log
pub reported : (in_time : Bool) (es : List Event) (h : MemoryHistory) (report : Findings) → IsForcedHistory in_time es h → EachIsLongTrueOf (histories.Memory h) report
    → EachIsKnownOnDistinctValues (histories.Memory h) report → EachNamesUnexplained (histories.Memory h) report → IsReportOn in_time es report
reported in_time es h report (saw, forced, is) truth unknown unexplained = (
  saw,
  forced,
  record {
    true_of = subst (λ (k : MemoryHistory). EachIsLongTrueOf (histories.Memory k) report) is truth;
    unknown = subst (λ (k : MemoryHistory). EachIsKnownOnDistinctValues (histories.Memory k) report) is unknown;
    unexplained = subst (λ (k : MemoryHistory). EachNamesUnexplained (histories.Memory k) report) is unexplained;
  },
)

-- nothing need be forced
none_forced : (in_time : Bool) (es : List Event) → IsForcedIn in_time es []
none_forced in_time es = record {
  rising = search rules;
  possible = λ client x i j c null saw. absurd (cc saw);
  forced = λ client x r j c null saw. absurd (cc saw);
}

-- an answer by what is forced is an answer to the log
pub answered : (saw : List (ℕ × Seen)) (order : LogOrder) (log : Log) (text : List ℕ) (outcome : Outcome) → IsForcedIn log.in_time log.events saw
    → IsLogAnswerBy saw order log text outcome → IsLogAnswer order log text outcome
answered saw order log text outcome forced answer = (saw, forced, answer)

pub judged : (judging : LogJudging) (log : Log) (report : Findings) (result : Result Answered LogError) → IsReportOn log.in_time log.events report
    → IfOk result (λ answer. string_bytes answer.text ≡ text_for report)
    → IfOk result (λ answer. answer.outcome ≡ outcome_for judging.expected report)
    → IfOk result (λ answer. IsLogAnswer (Judge judging) log (string_bytes answer.text) answer.outcome)
judged judging log report (Ok answer) (saw, forced, by) is comes = (saw, forced, (report, by, is, comes))
judged judging log report (Err error) on is comes = is

pub history_answered : (log : Log) (h : MemoryHistory) (text : List ℕ) (outcome : Outcome) → IsForcedHistory log.in_time log.events h
    → text ≡ compact_text (form_of (histories.Memory h)) ++ codes "\n" → outcome ≡ Met → IsLogAnswer WriteHistory log text outcome
history_answered log h text outcome (saw, forced, same) is met =
    (saw, forced, (is ∙ ap (λ (k : MemoryHistory). compact_text (form_of (histories.Memory k)) ++ codes "\n") same, met))

pub names_answered : (log : Log) (text : List ℕ) (outcome : Outcome) → AreNames log text → outcome ≡ Met → IsLogAnswer WriteNames log text outcome
names_answered log text outcome are met = ([], none_forced log.in_time log.events, (are, met))

pub notes_answered : (log : Log) (text : List ℕ) (outcome : Outcome) → AreNotes text → outcome ≡ Met → IsLogAnswer WriteNotes log text outcome
notes_answered log text outcome are met = ([], none_forced log.in_time log.events, (are, met))
