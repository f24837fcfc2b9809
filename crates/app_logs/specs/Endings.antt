-- What is written of an answer to a log where the writer fails.
use Rattle.std.specs.Prelude.{◌≡◌, ◌⊎◌, ◌*◌, ℕ, suc, List, [], ◌∷◌, ◌++◌, Bool, Option, None, Some, IfSome, length, true}
use Rattle.std.specs.Io.KnownBytes.{Appends}
use Rattle.app_orders.specs.declared.expected.Expected.{Expected}
use Rattle.app_orders.specs.declared.log_order.LogOrder.{LogOrder}
use Rattle.json_lines.specs.declared.outcome.Outcome.{Outcome}
use Rattle.json_lines.specs.declared.outcome.Outcome.TheVariants.{Met}
use Rattle.json_lines.specs.WriteCalls.{AppendsFront}
use Rattle.log_events.specs.declared.event.Event.{Event}
use Rattle.log_reader.specs.Logs.{IsLogOf, Log}
use Rattle.app_findings.specs.declared.finding.Findings.{Findings}
use Rattle.app_logs.specs.LogAnswers.{IsLogAnswer, IsLogOfFront, every_in, expected_in}
use Rattle.app_logs.specs.Reports.{AreCuts, AreCutLines, IsReportOn, cut_line, multiples}

-- a log was read whole, and a beginning of an answer to it was written after what the writer held: where the reader and the writer tell
-- their bytes
pub record WritesAnswerFront (order : LogOrder) (reader writer_before writer_after : Option (List ℕ)) : Type 0 where
  pub log : Log
  pub torn : Bool
  pub text : List ℕ
  pub outcome : Outcome
  pub whole : IfSome reader (λ bytes. IsLogOf bytes log torn)
  pub answer : IsLogAnswer order log text outcome
  pub written : AppendsFront writer_before writer_after text

-- a beginning of the line on these events was written
abbrev pub WritesLineFront : List Event → Option (List ℕ) → Option (List ℕ) → Type 0
WritesLineFront events before after = (report : Findings) × IsReportOn true events report × AppendsFront before after (cut_line (length events) report)

-- the cut after so many others is that of this log: of the first lines of one, or of a whole one, at whose end it is
abbrev pub IsNextCut : ℕ → ℕ → Option (List ℕ) → Log → Type 0
IsNextCut every count reader log =
    ((length log.events ≡ every * suc count) × IfSome reader (λ bytes. IsLogOfFront bytes log))
    ⊎ ((torn : Bool) × AreCuts every (length log.events) (multiples every count ++ (length log.events ∷ [])) × IfSome reader (λ bytes. IsLogOf bytes log torn))

-- a line was written on each of some first cuts, each as expected, and a beginning of the line on the next one
pub record WritesCutsFront (every : ℕ) (expected : Expected) (reader writer_before writer_after : Option (List ℕ)) : Type 0 where
  pub log : Log
  pub count : ℕ
  pub text : List ℕ
  pub between : Option (List ℕ)
  pub next : IsNextCut every count reader log
  pub lines : AreCutLines expected log.events (multiples every count) text Met
  pub written : Appends writer_before between text
  pub begun : WritesLineFront log.events between writer_after

-- a beginning of what is answered to a log was written, as it is ordered
abbrev pub WritesFrontBy : Option ℕ → LogOrder → Option (List ℕ) → Option (List ℕ) → Option (List ℕ) → Type 0
WritesFrontBy (Some every) order reader writer_before writer_after = WritesCutsFront every (expected_in order) reader writer_before writer_after
WritesFrontBy None order reader writer_before writer_after = WritesAnswerFront order reader writer_before writer_after

abbrev pub WritesFront : LogOrder → Option (List ℕ) → Option (List ℕ) → Option (List ℕ) → Type 0
WritesFront order reader writer_before writer_after = WritesFrontBy (every_in order) order reader writer_before writer_after
