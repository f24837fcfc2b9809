-- What the functions that keep a log say to one another: no promise to a reader rests on it.
use Rattle.std.specs.Prelude.{◌≡◌, ◌≢◌, ⊤, ◌<◌, ◌≤◌, ℕ, true, List, [], ◌∷◌, ◌++◌, length, Option, Some, None}
use Rattle.serde_json.specs.Data.{Data}
use Rattle.serde_json.specs.View.{view}
use Rattle.json_bounded.specs.Text.{IsJson}
use Rattle.json_lines.specs.Lines.{is_blank}
use Rattle.log_events.specs.declared.event.ClientCall.{ClientCall}
use Rattle.log_events.specs.declared.event.Ending.{Ending}
use Rattle.log_events.specs.declared.event.Event.{Event}
use Rattle.log_events.specs.declared.event.Event.TheVariants.{Ends}
use Rattle.log_events.specs.Events.{MayStand}
use Rattle.log_reader.specs.Forms.{Said, SaidEnding, ordered, said_at}
use Rattle.log_reader.specs.Logs.{IsFull, IsNoJson, IsPendingAt, IsRefused, IsUnsaid, Log, MayFollow, MayOrder, ending_of, event_of, with_ending, with_event, with_order, with_said}
use Rattle.log_reader.specs.Readings.{AreNamed}
use Rattle.log_reader.specs.declared.content.Content.{Content}
use Rattle.log_reader.specs.declared.content.Content.TheVariants as contents
use Rattle.log_reader.specs.declared.limits.TheConstants.{MAX_LINE_BYTES}
use Rattle.log_reader.specs.declared.log_fault.LogFault.{LogFault}
use Rattle.log_reader.specs.declared.log_fault.LogFault.TheVariants as faults
use Rattle.log_reader.specs.declared.refusal.Reason.{Reason}
use Rattle.log_reader.specs.declared.refusal.Reason.TheVariants.{NotJson, NoForm, WrongEnd}

-- what a line has in it
abbrev pub IsContent : List ℕ → Content → Type 0
IsContent line contents.TooLong = MAX_LINE_BYTES < length line
IsContent line contents.Blank = (length line ≤ MAX_LINE_BYTES) × (is_blank line ≡ true)
IsContent line contents.NotJson = IsFull line × IsNoJson line
IsContent line (contents.Json value) = IsFull line × IsJson line (view value)

-- the event was refused, or memory ran out
abbrev pub IsEventFault : Log → Event → ℕ → Reason → LogFault → Type 0
IsEventFault log e n reason (faults.Refused refusal) = (refusal ≡ record { reason = reason; line = n }) × (¬ MayStand (log.events ++ e ∷ []) (length log.events) e)
IsEventFault log e n reason faults.Memory = ⊤
IsEventFault log e n reason faults.Read = ⊥

-- what is said was added to a log, from the line with this number
pub record AddsSaid (n : ℕ) (before : Log) (said : Said) (after : Log) : Type 0 where
  pub pending : Option ClientCall
  pub is_pending : IsPendingAt before said pending
  pub event : Event
  pub says : event_of before pending said ≡ Some event
  pub follows : MayFollow before event
  pub added : after ≡ with_event (with_said before pending said) n event

-- the order of time was said
pub record AddsOrder (before after : Log) : Type 0 where
  pub follows : MayOrder before
  pub added : after ≡ with_order before

-- one of the two
abbrev pub TakesSaid : ℕ → Log → Said → Log → Type 0
TakesSaid n before ordered after = AddsOrder before after
TakesSaid n before said after = AddsSaid n before said after

-- it does not follow, or memory ran out
abbrev pub IsSaidFault : Log → Said → ℕ → LogFault → Type 0
IsSaidFault log said n (faults.Refused refusal) = (refusal.line ≡ n) × IsUnsaid log said refusal.reason
IsSaidFault log said n faults.Memory = ⊤
IsSaidFault log said n faults.Read = ⊥

-- the same of a line
abbrev pub IsLineFault : Log → List ℕ → ℕ → LogFault → Type 0
IsLineFault log line n (faults.Refused refusal) = (refusal.line ≡ n) × IsRefused log line refusal.reason
IsLineFault log line n faults.Memory = ⊤
IsLineFault log line n faults.Read = ⊥

-- what is kept of a log
pub record IsBook (log : Log) : Type 0 where
  pub numbered : length log.lines ≡ length log.events
  pub named : AreNamed log

-- the pending call of a client ended so, on the line with this number
abbrev pub EndsCall : ℕ → Log → ℕ → ClientCall → SaidEnding → Log → Type 0
EndsCall n before client call ending after =
    (e : Ending) × (ending_of before call ending ≡ Some e) × MayFollow before (Ends client e) × (after ≡ with_event (with_ending before (Some call) ending) n (Ends client e))

-- it does not end so, or memory ran out
abbrev pub IsEndingFault : Log → ClientCall → SaidEnding → ℕ → LogFault → Type 0
IsEndingFault log call ending n (faults.Refused refusal) = (refusal ≡ record { reason = WrongEnd; line = n }) × (ending_of log call ending ≡ None)
IsEndingFault log call ending n faults.Memory = ⊤
IsEndingFault log call ending n faults.Read = ⊥

-- what a JSON value says was added
abbrev pub TakesValue : ℕ → Log → Data → Log → Type 0
TakesValue n before d after = (said : Said) × (said_at d ≡ Some said) × TakesSaid n before said after

abbrev pub IsValueRefused : Log → Data → Reason → Type 0
IsValueRefused log d NoForm = said_at d ≡ None
IsValueRefused log d reason = (said : Said) × (said_at d ≡ Some said) × IsUnsaid log said reason

abbrev pub IsValueFault : Log → Data → ℕ → LogFault → Type 0
IsValueFault log d n (faults.Refused refusal) = (refusal.line ≡ n) × IsValueRefused log d refusal.reason
IsValueFault log d n faults.Memory = ⊤
IsValueFault log d n faults.Read = ⊥

-- the last line, which no line feed ends, is refused, but not where it is no JSON
abbrev pub IsRestFault : Log → List ℕ → ℕ → LogFault → Type 0
IsRestFault log line n (faults.Refused refusal) = (refusal.line ≡ n) × (refusal.reason ≢ NotJson) × IsRefused log line refusal.reason
IsRestFault log line n faults.Memory = ⊤
IsRestFault log line n faults.Read = ⊥
