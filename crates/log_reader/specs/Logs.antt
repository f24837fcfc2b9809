-- Which log a text has, and which text is refused.
use Rattle.std.specs.Prelude.{◌≡◌, ◌≢◌, ◌⊎◌, ℕ, ◌+◌, ◌<◌, ◌≤◌, Bool, true, false, codes, List, [], ◌∷◌, ◌++◌, length, Option, Some, None, option_map, if◌then◌else◌}
use Rattle.std.specs.List.{All}
use Rattle.json_bounded.specs.Text.{IsJson}
use Rattle.json_lines.specs.Lines.{is_blank}
use Rattle.serde_json.specs.Data.{Data}
use Rattle.log_events.specs.Events.{IsAllowed, IsOpen}
use Rattle.log_events.specs.declared.event.ClientCall.{ClientCall}
use Rattle.log_events.specs.declared.event.ClientCall.TheVariants.{WriteTo, ReadOf, DeleteOf}
use Rattle.log_events.specs.declared.event.Ending.{Ending}
use Rattle.log_events.specs.declared.event.Ending.TheVariants.{Answered, Got, GotNothing, Failed, Lost}
use Rattle.log_events.specs.declared.event.Event.{Event}
use Rattle.log_events.specs.declared.event.Event.TheVariants.{Starts, Begins, Ends}
use Rattle.log_reader.specs.Names.{Name, number_in, same_name, text_name, with_name}
use Rattle.log_reader.specs.Forms.{Said, SaidCall, SaidEnding, start, begin, end, ordered, write, read, delete, answer, nothing, failed, lost, said_at}
use Rattle.log_reader.specs.declared.limits.TheConstants.{MAX_LINE_BYTES}
use Rattle.log_reader.specs.declared.refusal.Reason.{Reason}
use Rattle.log_reader.specs.declared.refusal.Reason.TheVariants.{NotJson, TooLong, NoForm, LateStart, CallPending, NothingPending, WrongEnd, LateOrder}
use Rattle.log_reader.specs.declared.refusal.Refusal.{Refusal}

-- a log: the tables of its clients, keys and values, its events, the line of each, and whether it says that its lines stand in the order of time
pub record Log : Type 0 where
  pub clients : List Name
  pub keys : List Name
  pub values : List Name
  pub events : List Event
  pub lines : List ℕ
  pub in_time : Bool

abbrev pub no_log : Log
no_log = record { clients = []; keys = []; values = []; events = []; lines = []; in_time = false }

-- ---- the event that is said, where these are the log before it and the pending call of its client

module _ (log : Log) where
  abbrev pub client_number : Name → ℕ
  client_number client = number_in log.clients client

  abbrev pub key_number : Name → ℕ
  key_number key = number_in log.keys key

  abbrev pub value_number : Name → ℕ
  value_number value = number_in log.values value

  abbrev pub call_of : SaidCall → ClientCall
  call_of (write key value) = WriteTo (key_number key) (value_number value)
  call_of (read key) = ReadOf (key_number key)
  call_of (delete key) = DeleteOf (key_number key)

  -- a read ends by what it got, and a write or a delete by `"ok"`
  abbrev pub ending_of : ClientCall → SaidEnding → Option Ending
  ending_of call failed = Some Failed
  ending_of call lost = Some Lost
  ending_of (ReadOf x) (answer value) = Some (Got (value_number value))
  ending_of (ReadOf x) nothing = Some GotNothing
  ending_of (WriteTo x v) (answer value) = if same_name value (text_name (codes "ok")) then Some Answered else None
  ending_of (WriteTo x v) nothing = None
  ending_of (DeleteOf x) (answer value) = if same_name value (text_name (codes "ok")) then Some Answered else None
  ending_of (DeleteOf x) nothing = None

  abbrev pub event_of : Option ClientCall → Said → Option Event
  event_of pending (start key value) = Some (Starts (key_number key) (value_number value))
  event_of pending (begin client call) = Some (Begins (client_number client) (call_of call))
  event_of None (end client ending) = None
  event_of (Some call) (end client ending) = option_map (Ends (client_number client)) (ending_of call ending)
  event_of pending ordered = None

  -- the log with names that were met
  abbrev pub with_client : Name → Log
  with_client client = record log { clients = with_name log.clients client }

  abbrev pub with_key : Name → Log
  with_key key = record log { keys = with_name log.keys key }

  abbrev pub with_value : Name → Log
  with_value value = record log { values = with_name log.values value }

  -- and with an event, on this line
  abbrev pub with_event : ℕ → Event → Log
  with_event n e = record log { events = log.events ++ e ∷ []; lines = log.lines ++ n ∷ [] }

  -- and with the order of time
  abbrev pub with_order : Log
  with_order = record log { in_time = true }

abbrev pub with_call : Log → SaidCall → Log
with_call log (write key value) = with_value (with_key log key) value
with_call log (read key) = with_key log key
with_call log (delete key) = with_key log key

abbrev pub with_ending : Log → Option ClientCall → SaidEnding → Log
with_ending log (Some (ReadOf x)) (answer value) = with_value log value
with_ending log pending ending = log

-- the log with the names of what is said
abbrev pub with_said : Log → Option ClientCall → Said → Log
with_said log pending (start key value) = with_value (with_key log key) value
with_said log pending (begin client call) = with_call (with_client log client) call
with_said log pending (end client ending) = with_ending (with_client log client) pending ending
with_said log pending ordered = log

-- ---- what a line does

-- the pending call of a client, or none
abbrev pub IsPending : List Event → ℕ → Option ClientCall → Type 0
IsPending es client None = (i : ℕ) (call : ClientCall) → ¬ IsOpen es client call i (length es)
IsPending es client (Some call) = (i : ℕ) × IsOpen es client call i (length es)

-- the pending call that matters: that of a client whose call ends
abbrev pub IsPendingAt : Log → Said → Option ClientCall → Type 0
IsPendingAt log (start key value) pending = pending ≡ None
IsPendingAt log (begin client call) pending = pending ≡ None
IsPendingAt log (end client ending) pending = IsPending log.events (client_number log client) pending
IsPendingAt log ordered pending = pending ≡ None

-- the events of the log and this one are a log
abbrev pub MayFollow : Log → Event → Type 0
MayFollow log e = IsAllowed (log.events ++ e ∷ [])

-- the order of time is said first, and once
abbrev pub MayOrder : Log → Type 0
MayOrder log = (log.events ≡ []) × (log.in_time ≡ false)

-- the line is neither blank nor too long
abbrev pub IsFull : List ℕ → Type 0
IsFull line = (length line ≤ MAX_LINE_BYTES) × (is_blank line ≡ false)

-- the line with this number says an event that may follow
pub record AddsEvent (n : ℕ) (before : Log) (line : List ℕ) (after : Log) : Type 0 where
  pub full : IsFull line
  pub value : Data
  pub json : IsJson line value
  pub said : Said
  pub form : said_at value ≡ Some said
  pub pending : Option ClientCall
  pub is_pending : IsPendingAt before said pending
  pub event : Event
  pub says : event_of before pending said ≡ Some event
  pub follows : MayFollow before event
  pub added : after ≡ with_event (with_said before pending said) n event

-- the line says that the lines of the log stand in the order of time, before any event
pub record SaysOrder (before : Log) (line : List ℕ) (after : Log) : Type 0 where
  pub full : IsFull line
  pub value : Data
  pub json : IsJson line value
  pub form : said_at value ≡ Some ordered
  pub follows : MayOrder before
  pub added : after ≡ with_order before

-- a line takes a log to the next: a blank one leaves it, and any other adds an event, or the order of time
abbrev pub Takes : ℕ → Log → List ℕ → Log → Type 0
Takes n before line after =
    ((length line ≤ MAX_LINE_BYTES) × (is_blank line ≡ true) × (after ≡ before)) ⊎ (AddsEvent n before line after ⊎ SaysOrder before line after)

abbrev pub IsNoJson : List ℕ → Type 0
IsNoJson line = (d : Data) → ¬ IsJson line d

-- what is said does not follow, for this reason
abbrev pub IsUnsaid : Log → Said → Reason → Type 0
IsUnsaid log (start key value) LateStart = ¬ MayFollow log (Starts (key_number log key) (value_number log value))
IsUnsaid log (begin client call) CallPending = ¬ MayFollow log (Begins (client_number log client) (call_of log call))
IsUnsaid log (end client ending) NothingPending = IsPending log.events (client_number log client) None
IsUnsaid log (end client ending) WrongEnd =
    (call : ClientCall) × IsPending log.events (client_number log client) (Some call) × (ending_of log call ending ≡ None)
IsUnsaid log ordered LateOrder = ¬ MayOrder log
IsUnsaid log said reason = ⊥

-- the line does not follow, for this reason
abbrev pub IsRefused : Log → List ℕ → Reason → Type 0
IsRefused log line TooLong = MAX_LINE_BYTES < length line
IsRefused log line NotJson = IsFull line × IsNoJson line
IsRefused log line NoForm = IsFull line × ((d : Data) × IsJson line d × (said_at d ≡ None))
IsRefused log line reason = IsFull line × ((d : Data) × (said : Said) × IsJson line d × (said_at d ≡ Some said) × IsUnsaid log said reason)

-- ---- texts

-- no byte is a line feed
abbrev pub IsFree : List ℕ → Type 0
IsFree line = All (λ b. b ≢ 10) line

-- lines, each with its line feed
abbrev pub ended_lines : List (List ℕ) → List ℕ
ended_lines [] = []
ended_lines (line ∷ lines) = line ++ 10 ∷ ended_lines lines

-- lines, the first of which has this number, take a log to the next
unfoldable pub Follow : ℕ → Log → List (List ℕ) → Log → Type 0
Follow n before [] after = after ≡ before
Follow n before (line ∷ lines) after = (between : Log) × Takes n before line between × Follow (n + 1) between lines after

-- the lines of a text that line feeds end, the log that they have, and what comes after them
pub record BeginsBy (text : List ℕ) (lines : List (List ℕ)) (log : Log) (rest : List ℕ) : Type 0 where
  pub whole : text ≡ ended_lines lines ++ rest
  pub free : All IsFree lines
  pub follow : Follow 1 no_log lines log

-- a last line without a line feed that is no JSON is torn
abbrev pub IsTorn : List ℕ → Type 0
IsTorn line = IsFull line × IsNoJson line

-- the last line, without a line feed, takes a log to the next, or is torn and passed over
abbrev pub EndsBy : ℕ → Log → List ℕ → Bool → Log → Type 0
EndsBy n before rest true after = IsTorn rest × (after ≡ before)
EndsBy n before rest false after = Takes n before rest after

-- the text has this log, and its last line is torn or not
pub record IsLogOf (text : List ℕ) (log : Log) (torn : Bool) : Type 0 where
  pub lines : List (List ℕ)
  pub rest : List ℕ
  pub before : Log
  pub begins : BeginsBy text lines before rest
  pub rest_free : IsFree rest
  pub ends : EndsBy (length lines + 1) before rest torn log

-- what comes after a line: a line feed, or the end of the text, where a line that is no JSON is torn, and not refused
abbrev pub EndsLine : Reason → List ℕ → Type 0
EndsLine reason [] = reason ≢ NotJson
EndsLine reason (b ∷ more) = b ≡ 10

-- the text has no log: this is the first of its lines that does not follow
pub record IsRefusedLog (text : List ℕ) (refusal : Refusal) : Type 0 where
  pub lines : List (List ℕ)
  pub line : List ℕ
  pub rest : List ℕ
  pub before : Log
  pub begins : BeginsBy text lines before (line ++ rest)
  pub line_free : IsFree line
  pub ends : EndsLine refusal.reason rest
  pub refused : IsRefused before line refusal.reason
  pub number : refusal.line ≡ length lines + 1
