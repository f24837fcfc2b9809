-- What a drive of a store writes, and what it is refused for.
use Rattle.std.specs.Prelude.{◌≡◌, ◌+◌, ◌<◌, ◌≤◌, ⊤, ℕ, List, ◌++◌, length, Option, Some, codes, slice_get}
use Rattle.std.specs.List.{flat_map}
use Rattle.serde_json.specs.Written.{compact_text}
use Rattle.model_history.specs.History.{HistoryValue}
use Rattle.live_driver.specs.Drives.{IsOfInput, RepeatsCalls}
use Rattle.json_histories.specs.declared.any_history.AnyHistory.{AnyHistory}
use Rattle.json_histories.specs.declared.any_history.AnyHistory.TheVariants as histories
use Rattle.json_histories.specs.AnyForm.{form_of, IsAnyHistory, IsJson}
use Rattle.app_orders.specs.declared.order.Order.{Order}
use Rattle.app_orders.specs.declared.order.Order.TheVariants as orders
use Rattle.app_orders.specs.declared.drive.Drive.{Drive}
use Rattle.app_orders.specs.declared.length.Length.TheVariants.{Limited}
use Rattle.app_engine.specs.declared.failure.RunError.{RunError}
use Rattle.app_engine.specs.declared.failure.RunError.TheVariants.{BadLimits, NoSuch, Memory}
use Rattle.app_findings.specs.declared.finding.Findings.{Findings}
use Rattle.app_explanations.specs.Report.{IsReportOf, text_for}

-- a fact about two histories of one object
abbrev pub Relation : Type 1
Relation = (S C R : Type 0) → HistoryValue S C R → HistoryValue S C R → Type 0

-- two histories are of one object, and the fact holds of them
abbrev pub AreRelated : Relation → AnyHistory → AnyHistory → Type 0
AreRelated relation (histories.Register g) (histories.Register h) = relation _ _ _ g h
AreRelated relation (histories.Counter g) (histories.Counter h) = relation _ _ _ g h
AreRelated relation (histories.Set g) (histories.Set h) = relation _ _ _ g h
AreRelated relation (histories.Queue g) (histories.Queue h) = relation _ _ _ g h
AreRelated relation (histories.Memory g) (histories.Memory h) = relation _ _ _ g h
AreRelated relation (histories.Counters g) (histories.Counters h) = relation _ _ _ g h
AreRelated relation (histories.Sets g) (histories.Sets h) = relation _ _ _ g h
AreRelated relation (histories.Queues g) (histories.Queues h) = relation _ _ _ g h
AreRelated relation _ _ = ⊥

-- a history is of the input's object, and has its start and as many sessions, and in each the first calls of that session of the input, and no others
abbrev pub IsSealedFrom : AnyHistory → AnyHistory → Type 0
IsSealedFrom input history = AreRelated (λ S C R g h. IsOfInput g h) input history

-- each of its sessions begins with the input's calls, in order and with known returns, but for the last call of the session
-- that stops
abbrev pub Repeats : Option ℕ → AnyHistory → AnyHistory → Type 0
Repeats stop input history = AreRelated (λ S C R g h. RepeatsCalls stop g h) input history

-- how many sessions a history has
abbrev pub sessions_in : AnyHistory → ℕ
sessions_in (histories.Register h) = length h.1
sessions_in (histories.Counter h) = length h.1
sessions_in (histories.Set h) = length h.1
sessions_in (histories.Queue h) = length h.1
sessions_in (histories.Memory h) = length h.1
sessions_in (histories.Counters h) = length h.1
sessions_in (histories.Sets h) = length h.1
sessions_in (histories.Queues h) = length h.1

-- a history, and what is said of it
pub record SealedReport : Type 0 where
  pub history : AnyHistory
  pub report : Findings

-- its compact text, a line feed and the lines of the report
abbrev pub text_of : SealedReport → List ℕ
text_of s = compact_text (form_of s.history) ++ (codes "\n" ++ text_for s.report)

-- it is a history that was sealed from the input, and the report is true of it
pub record IsTrueReport (input : AnyHistory) (s : SealedReport) : Type 0 where
  pub is_history : IsAnyHistory s.history
  pub sealed : IsSealedFrom input s.history
  pub answers : IsReportOf Limited s.history s.report

-- there is a session, and the one that stops is there
pub record CanDrive (stop : Option ℕ) (sessions : ℕ) : Type 0 where
  pub some_session : 0 < sessions
  pub stopping : (s : ℕ) → stop ≡ Some s → s < sessions

-- the text says, of one history more than the seals that were asked for, what each is, with a true report; and in the last
-- the input's calls are repeated
pub record IsDriven (drive : Drive) (input : AnyHistory) (text : List ℕ) : Type 0 where
  pub can : CanDrive drive.stop (sessions_in input)
  pub reports : List SealedReport
  pub many : length reports ≡ drive.seals + 1
  pub each : (j : ℕ) (s : SealedReport) → slice_get reports j ≡ Some s → IsTrueReport input s
  pub last : (s : SealedReport) → slice_get reports drive.seals ≡ Some s → Repeats drive.stop input s.history
  pub whole : text ≡ flat_map text_of reports

-- why a history is not driven: it has no session, or lacks the one that stops; or memory ran out
abbrev pub IsDriveError : Option ℕ → ℕ → RunError → Type 0
IsDriveError stop sessions BadLimits = sessions ≡ 0
IsDriveError stop sessions NoSuch = (0 < sessions) × ((s : ℕ) × (stop ≡ Some s) × (sessions ≤ s))
IsDriveError stop sessions Memory = ⊤
IsDriveError stop sessions _ = ⊥

-- an order to drive
abbrev pub IsDriveOrder : Order → Type 0
IsDriveOrder (orders.Drive drive) = ⊤
IsDriveOrder _ = ⊥

-- what an order to drive writes for a history, and why it is not obeyed
abbrev pub IsDrivenAs : Order → AnyHistory → List ℕ → Type 0
IsDrivenAs (orders.Drive drive) input text = IsDriven drive input text
IsDrivenAs _ input text = ⊥

abbrev pub IsOrderError : Order → AnyHistory → RunError → Type 0
IsOrderError (orders.Drive drive) input error = IsDriveError drive.stop (sessions_in input) error
IsOrderError _ input error = ⊥

-- the text answers the history in the input
pub record IsDriveReport (drive : Drive) (input text : List ℕ) : Type 0 where
  pub history : AnyHistory
  pub is_history : IsAnyHistory history
  pub read : IsJson input (form_of history)
  pub driven : IsDriven drive history text

-- the history in the input is not driven for this reason
abbrev pub IsUndriven : Drive → List ℕ → RunError → Type 0
IsUndriven drive input error =
    (history : AnyHistory) × IsAnyHistory history × IsJson input (form_of history) × IsDriveError drive.stop (sessions_in history) error
