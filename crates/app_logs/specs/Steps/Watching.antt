-- What a turn of judging a log while it is read begins with, and what comes of it.
use Rattle.std.specs.Prelude.{◌≡◌, ◌≢◌, ◌⊎◌, ◌*◌, ◌<◌, ℕ, suc, false, List, Option, None, length, true}
use Rattle.std.specs.Io.KnownBytes.{Appends, Consumes}
use Rattle.app_orders.specs.declared.expected.Expected.{Expected}
use Rattle.json_lines.specs.declared.outcome.Outcome.{Outcome}
use Rattle.json_lines.specs.declared.outcome.Outcome.TheVariants.{Met}
use Rattle.log_events.specs.declared.event.Event.{Event}
use Rattle.app_findings.specs.declared.finding.Findings.{Findings}
use Rattle.app_engine.specs.Expecting.{outcome_for}
use Rattle.log_reader.specs.Readings.{HasRead, Reading}
use Rattle.app_logs.specs.declared.turn.Turn.{Turn}
use Rattle.app_logs.specs.declared.turn.Turn.TheVariants.{On, Stopped, Ended}
use Rattle.app_logs.specs.Endings.{WritesLineFront}
use Rattle.app_logs.specs.LogAnswers.{WatchesLog, WritesCutsUpTo}
use Rattle.app_logs.specs.Reports.{AreCutLines, IsReportOn, cut_line, multiples}

-- the line on all these events was written, and this came of their report
pub record WritesCut (expected : Expected) (events : List Event) (writer_before writer_after : Option (List ℕ)) (outcome : Outcome) : Type 0 where
  pub report : Findings
  pub on : IsReportOn true events report
  pub comes : outcome ≡ outcome_for expected report
  pub written : Appends writer_before writer_after (cut_line (length events) report)

-- the same at the end of a log, unless its last events were judged before, where so many were
pub record KeepsLast (events : List Event) (judged : ℕ) (writer_before writer_after : Option (List ℕ)) (outcome : Outcome) : Type 0 where
  pub all : length events ≡ judged
  pub some : 0 < judged
  pub same : writer_after ≡ writer_before
  pub comes : outcome ≡ Met

abbrev pub WritesLast : Expected → List Event → ℕ → Option (List ℕ) → Option (List ℕ) → Outcome → Type 0
WritesLast expected events judged before after outcome =
    KeepsLast events judged before after outcome
    ⊎ (((length events ≢ judged) ⊎ (judged ≡ 0)) × WritesCut expected events before after outcome)

-- a beginning of that line was written
abbrev pub BeginsLast : List Event → ℕ → Option (List ℕ) → Option (List ℕ) → Type 0
BeginsLast events judged before after = ((length events ≢ judged) ⊎ (judged ≡ 0)) × WritesLineFront events before after

-- the judging goes on after a cut where what was expected came of it, and else stops there
abbrev pub GoesOnBy : Outcome → Turn → Type 0
GoesOnBy outcome On = outcome ≡ Met
GoesOnBy outcome (Stopped followed) = (followed ≡ record { outcome = outcome; torn = false; late = None; says_order = false }) × (outcome ≢ Met)
GoesOnBy outcome (Ended followed) = ⊥

module _ (every : ℕ) (expected : Expected) (source_before source_after writer_before writer_after : Option (List ℕ)) where
  -- so many cuts were judged, each as expected, and no event after the last of them was taken
  pub record HasWatched (reading : Reading) (count : ℕ) : Type 0 where
    pub text : List ℕ
    pub consumed : Consumes source_before source_after text
    pub read : HasRead text reading
    pub events : length reading.log.events ≡ every * count
    pub said : List ℕ
    pub lines : AreCutLines expected reading.log.events (multiples every count) said Met
    pub written : Appends writer_before writer_after said

  -- one cut more was, or the judging stopped there, or that was the end
  abbrev pub IsTurn : Reading → ℕ → Turn → Type 0
  IsTurn reading count On = HasWatched reading (suc count)
  IsTurn reading count (Stopped followed) = WritesCutsUpTo every expected source_before writer_before writer_after followed
  IsTurn reading count (Ended followed) = WatchesLog every expected source_before source_after writer_before writer_after followed
