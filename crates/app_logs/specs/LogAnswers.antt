-- What is answered to a log, and when it has no answer.
use Rattle.std.specs.Prelude.{◌≡◌, ◌≢◌, ◌⊎◌, ◌≤◌, ◌<◌, ⊤, ◌*◌, ℕ, suc, List, ◌++◌, false, Option, None, Some, IfSome, codes, length}
use Rattle.std.specs.Io.KnownBytes.{Appends, IsAtEnd}
use Rattle.serde_json.specs.Written.{compact_text}
use Rattle.app_orders.specs.declared.expected.Expected.{Expected}
use Rattle.app_orders.specs.Expected.{expecting_nothing}
use Rattle.app_orders.specs.declared.log_order.LogOrder.{LogOrder}
use Rattle.app_orders.specs.declared.log_order.LogOrder.TheVariants.{Judge, Explain, ListFaults, WriteHistory, WriteNames, WriteNotes}
use Rattle.json_lines.specs.declared.outcome.Outcome.{Outcome}
use Rattle.json_lines.specs.declared.outcome.Outcome.TheVariants.{Met}
use Rattle.json_histories.specs.AnyForm.{form_of}
use Rattle.app_findings.specs.declared.finding.Findings.{Findings}
use Rattle.app_explanations.specs.Report.{text_for}
use Rattle.app_engine.specs.Expecting.{outcome_for}
use Rattle.app_explanations.specs.ExplanationTexts.{IsExplainedAs}
use Rattle.app_explanations.specs.ListTexts.{IsListOf}
use Rattle.log_reader.specs.Logs.{BeginsBy, IsLogOf, IsRefusedLog, Log}
use Rattle.log_reader.specs.declared.refusal.Refusal.{Refusal}
use Rattle.log_choices.specs.declared.seen.Seen.{Seen}
use Rattle.app_logs.specs.declared.failure.LogError.{LogError}
use Rattle.app_logs.specs.declared.failure.LogError.TheVariants.{Refused}
use Rattle.app_logs.specs.declared.following.Followed.{Followed}
use Rattle.app_logs.specs.LogTexts.{AreNames}
use Rattle.app_logs.specs.Notes.{AreNotes}
use Rattle.app_logs.specs.Reports.{AreCuts, AreCutLines, IsForcedIn, IsReportBy, any_history_by, multiples}

-- the text answers a log that was read whole, by what its null reads saw, and this comes of it
abbrev pub IsLogAnswerBy : List (ℕ × Seen) → LogOrder → Log → List ℕ → Outcome → Type 0
IsLogAnswerBy saw (Judge judging) log text outcome =
    (report : Findings) × IsReportBy log.events saw report × (text ≡ text_for report) × (outcome ≡ outcome_for judging.expected report)
IsLogAnswerBy saw (Explain form) log text outcome = IsExplainedAs form (any_history_by log.events saw) text × (outcome ≡ Met)
IsLogAnswerBy saw (ListFaults most form) log text outcome = IsListOf form most (any_history_by log.events saw) text × (outcome ≡ Met)
IsLogAnswerBy saw WriteHistory log text outcome =
    (text ≡ compact_text (form_of (any_history_by log.events saw)) ++ codes "\n") × (outcome ≡ Met)
IsLogAnswerBy saw WriteNames log text outcome = AreNames log text × (outcome ≡ Met)
IsLogAnswerBy saw WriteNotes log text outcome = AreNotes text × (outcome ≡ Met)

-- it does by what is forced
abbrev pub IsLogAnswer : LogOrder → Log → List ℕ → Outcome → Type 0
IsLogAnswer order log text outcome = (saw : List (ℕ × Seen)) × IsForcedIn log.in_time log.events saw × IsLogAnswerBy saw order log text outcome

-- a log was read whole, and the answer to it was written after what the writer held: where the reader and the writer tell their bytes
pub record AnswersLog (order : LogOrder) (reader_before reader_after writer_before writer_after : Option (List ℕ)) (followed : Followed) : Type 0 where
  pub log : Log
  pub text : List ℕ
  pub whole : IfSome reader_before (λ bytes. IsLogOf bytes log followed.torn)
  pub end : IsAtEnd reader_after
  pub answer : IsLogAnswer order log text followed.outcome
  pub written : Appends writer_before writer_after text

-- the log of some first lines of a text
abbrev pub IsLogOfFront : List ℕ → Log → Type 0
IsLogOfFront bytes log = (lines : List (List ℕ)) × (rest : List ℕ) × BeginsBy bytes lines log rest

-- the first lines of a log were read, and a line was written on each of these cuts of it, of the last of which something else came than was
-- expected
pub record WritesCutsUpTo (every : ℕ) (expected : Expected) (reader writer_before writer_after : Option (List ℕ)) (followed : Followed) : Type 0 where
  pub log : Log
  pub count : ℕ
  pub text : List ℕ
  pub front : IfSome reader (λ bytes. IsLogOfFront bytes log)
  pub events : length log.events ≡ every * count
  pub lines : AreCutLines expected log.events (multiples every count) text followed.outcome
  pub written : Appends writer_before writer_after text
  pub early : followed.outcome ≢ Met
  pub whole_line : followed.torn ≡ false

-- a log was read to its end, and a line was written for each of its cuts
pub record WritesAllCuts (every : ℕ) (expected : Expected) (reader_before reader_after writer_before writer_after : Option (List ℕ)) (followed : Followed) : Type 0 where
  pub log : Log
  pub cuts : List ℕ
  pub text : List ℕ
  pub whole : IfSome reader_before (λ bytes. IsLogOf bytes log followed.torn)
  pub end : IsAtEnd reader_after
  pub are_cuts : AreCuts every (length log.events) cuts
  pub lines : AreCutLines expected log.events cuts text followed.outcome
  pub written : Appends writer_before writer_after text

-- a log was judged while it was read: to its end, or to the first cut of which something else came than was expected
abbrev pub WatchesLog : ℕ → Expected → Option (List ℕ) → Option (List ℕ) → Option (List ℕ) → Option (List ℕ) → Followed → Type 0
WatchesLog every expected reader_before reader_after writer_before writer_after followed =
    WritesAllCuts every expected reader_before reader_after writer_before writer_after followed
    ⊎ WritesCutsUpTo every expected reader_before writer_before writer_after followed

-- some first lines of a log were read, and a line was written on each of these cuts of it, each as expected, before something failed
pub record WritesFirstCuts (every : ℕ) (expected : Expected) (reader writer_before writer_after : Option (List ℕ)) : Type 0 where
  pub log : Log
  pub count : ℕ
  pub text : List ℕ
  pub front : IfSome reader (λ bytes. IsLogOfFront bytes log)
  pub events : length log.events ≡ every * count
  pub lines : AreCutLines expected log.events (multiples every count) text Met
  pub written : Appends writer_before writer_after text

-- a line was refused, and before it a line was written on each cut of the log so far, each as expected
pub record RefusesAfterCuts (every : ℕ) (expected : Expected) (bytes : List ℕ) (writer_before writer_after : Option (List ℕ)) (refusal : Refusal) : Type 0 where
  pub refused : IsRefusedLog bytes refusal
  pub count : ℕ
  pub text : List ℕ
  pub judged : every * count ≤ length refused.before.events
  pub next : length refused.before.events < every * suc count
  pub lines : AreCutLines expected refused.before.events (multiples every count) text Met
  pub written : Appends writer_before writer_after text

-- the same of an error, if it is a refusal and the reader tells its bytes
abbrev pub RefusesLate : ℕ → Expected → Option (List ℕ) → Option (List ℕ) → Option (List ℕ) → LogError → Type 0
RefusesLate every expected reader writer_before writer_after (Refused refusal) =
    IfSome reader (λ bytes. RefusesAfterCuts every expected bytes writer_before writer_after refusal)
RefusesLate every expected reader writer_before writer_after _ = ⊤

-- after how many events a log is judged again, where that was ordered
abbrev pub every_in : LogOrder → Option ℕ
every_in (Judge judging) = judging.every
every_in order = None

abbrev pub expected_in : LogOrder → Expected
expected_in (Judge judging) = judging.expected
expected_in order = expecting_nothing

-- what is done with a log, as it is ordered
abbrev pub FollowsBy : Option ℕ → LogOrder → Option (List ℕ) → Option (List ℕ) → Option (List ℕ) → Option (List ℕ) → Followed → Type 0
FollowsBy (Some every) order reader_before reader_after writer_before writer_after followed =
    WatchesLog every (expected_in order) reader_before reader_after writer_before writer_after followed
FollowsBy None order reader_before reader_after writer_before writer_after followed =
    AnswersLog order reader_before reader_after writer_before writer_after followed

abbrev pub FollowsLog : LogOrder → Option (List ℕ) → Option (List ℕ) → Option (List ℕ) → Option (List ℕ) → Followed → Type 0
FollowsLog order reader_before reader_after writer_before writer_after followed =
    FollowsBy (every_in order) order reader_before reader_after writer_before writer_after followed

-- why a log has no answer: a line is refused, as the reader tells its bytes; or memory, the reader or the writer failed
abbrev pub IsLogError : Option (List ℕ) → LogError → Type 0
IsLogError reader (Refused refusal) = IfSome reader (λ bytes. IsRefusedLog bytes refusal)
IsLogError reader _ = ⊤
