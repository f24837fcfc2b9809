-- What is said of a log: what is forced of its null reads, and reports on the history by it.
use Rattle.std.specs.Prelude.{◌≡◌, ◌⊎◌, ◌≤◌, ◌<◌, ◌*◌, ℕ, zero, suc, Bool, true, List, [], ◌∷◌, ◌++◌, codes, decimal, take}
use Rattle.model_objects.specs.Table.{IsRising}
use Rattle.order_memory.specs.Memory.{MemoryHistory}
use Rattle.app_orders.specs.declared.expected.Expected.{Expected}
use Rattle.app_orders.specs.declared.length.Length.TheVariants.{Any}
use Rattle.json_histories.specs.declared.any_history.AnyHistory.{AnyHistory}
use Rattle.json_histories.specs.declared.any_history.AnyHistory.TheVariants as histories
use Rattle.json_lines.specs.declared.outcome.Outcome.{Outcome}
use Rattle.json_lines.specs.declared.outcome.Outcome.TheVariants.{Met}
use Rattle.json_lines.specs.Lines.{ended}
use Rattle.json_lines.specs.Outcomes.{worse}
use Rattle.log_events.specs.declared.event.Event.{Event}
use Rattle.log_choices.specs.declared.seen.Seen.{Seen}
use Rattle.log_choices.specs.Choices.{IsChoiceWherePossible}
use Rattle.log_choices.specs.ChoiceTables.{choice_in}
use Rattle.log_choices.specs.ChosenHistories.{history_by}
use Rattle.log_choices.specs.Forced.{IsForcedChoice}
use Rattle.app_findings.specs.declared.finding.Findings.{Findings}
use Rattle.app_explanations.specs.Report.{IsReportOf}
use Rattle.app_engine.specs.Expecting.{outcome_for}
use Rattle.app_engine.specs.LineAnswers.{joined_for}

-- what null reads saw, by the places of their begins, as far as it is forced, in the order of time or not: each saw a candidate, or has
-- none, and its other candidates are out
pub record IsForcedIn (in_time : Bool) (es : List Event) (saw : List (ℕ × Seen)) : Type 0 where
  pub rising : IsRising saw
  pub possible : IsChoiceWherePossible in_time es (choice_in saw)
  pub forced : IsForcedChoice in_time es (choice_in saw)

-- the history of events by what null reads saw. Others are left out
abbrev pub any_history_by : List Event → List (ℕ × Seen) → AnyHistory
any_history_by es saw = histories.Memory (history_by es (choice_in saw))

-- the history by what is forced
abbrev pub IsForcedHistory : Bool → List Event → MemoryHistory → Type 0
IsForcedHistory in_time es h = (saw : List (ℕ × Seen)) × IsForcedIn in_time es saw × (h ≡ history_by es (choice_in saw))

-- a report on the history by what null reads saw, as a history of any length
abbrev pub IsReportBy : List Event → List (ℕ × Seen) → Findings → Type 0
IsReportBy es saw report = IsReportOf Any (any_history_by es saw) report

-- a report on events: by what is forced
abbrev pub IsReportOn : Bool → List Event → Findings → Type 0
IsReportOn in_time es report = (saw : List (ℕ × Seen)) × IsForcedIn in_time es saw × IsReportBy es saw report

-- the line on the first events: how many they are, and the lines of a report, joined
abbrev pub cut_line : ℕ → Findings → List ℕ
cut_line n report = decimal n ++ (codes " " ++ ended (joined_for report))

-- the text has a line on the first events for each of these numbers of them, in order, by what is forced in these in the order of time; of each
-- report but the last what was expected comes, and this comes of all
unfoldable pub AreCutLines : Expected → List Event → List ℕ → List ℕ → Outcome → Type 0
AreCutLines expected events [] text outcome = (text ≡ []) × (outcome ≡ Met)
AreCutLines expected events (n ∷ ns) text outcome =
    (report : Findings) × (others : List ℕ) × (more : Outcome) × IsReportOn true (take n events) report
    × AreCutLines expected events ns others more × (text ≡ cut_line n report ++ others) × (outcome ≡ worse (outcome_for expected report) more)
    × ((ns ≡ []) ⊎ (outcome_for expected report ≡ Met))

-- the first multiples of a number
unfoldable pub multiples : ℕ → ℕ → List ℕ
multiples every zero = []
multiples every (suc k) = multiples every k ++ (every * suc k ∷ [])

-- after how many events a log is judged that has so many of them: after each multiple of a number, and after all
abbrev pub AreCuts : ℕ → ℕ → List ℕ → Type 0
AreCuts every total cuts =
    ((k : ℕ) × (0 < k) × (total ≡ every * k) × (cuts ≡ multiples every k))
    ⊎ ((k : ℕ) × (every * k ≤ total) × (total < every * suc k) × ((every * k < total) ⊎ (total ≡ 0)) × (cuts ≡ multiples every k ++ (total ∷ [])))
