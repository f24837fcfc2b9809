-- Which lists of events are logs, and the calls of a run.
use Rattle.std.specs.Prelude.{◌≡◌, ⊤, ℕ, ◌+◌, ◌<◌, ◌==◌, if◌then◌else◌, List, [], ◌∷◌, Option, Some, None, filter, slice_get}
use Rattle.log_events.specs.declared.event.ClientCall.{ClientCall}
use Rattle.log_events.specs.declared.event.ClientCall.TheVariants.{WriteTo, ReadOf, DeleteOf}
use Rattle.log_events.specs.declared.event.Ending.{Ending}
use Rattle.log_events.specs.declared.event.Ending.TheVariants.{Answered, Got, GotNothing, Failed, Lost}
use Rattle.log_events.specs.declared.event.Event.{Event}
use Rattle.log_events.specs.declared.event.Event.TheVariants.{Starts, Begins, Ends}

-- an ending fits a call
abbrev pub Fits : ClientCall → Ending → Type 0
Fits call Failed = ⊤
Fits call Lost = ⊤
Fits (WriteTo x v) Answered = ⊤
Fits (DeleteOf x) Answered = ⊤
Fits (ReadOf x) (Got v) = ⊤
Fits (ReadOf x) GotNothing = ⊤
Fits call ending = ⊥

-- the event at a place of the list
abbrev pub IsAt : List Event → ℕ → Event → Type 0
IsAt es i e = slice_get es i ≡ Some e

-- the call that a client began at the place i is pending at the place j
pub record IsOpen (es : List Event) (client : ℕ) (call : ClientCall) (i j : ℕ) : Type 0 where
  pub begun : IsAt es i (Begins client call)
  pub earlier : i < j
  pub unended : (k : ℕ) (ending : Ending) → i < k → k < j → ¬ IsAt es k (Ends client ending)

-- it ended at the place j
pub record IsEnded (es : List Event) (client : ℕ) (call : ClientCall) (i j : ℕ) (ending : Ending) : Type 0 where
  pub was_open : IsOpen es client call i j
  pub ends : IsAt es j (Ends client ending)

-- what may stand at the place j: a start before all calls, with keys that rise (keys get their numbers in the order in which they are
-- met); a call of a client that has none pending; an end that fits the pending call of its client
abbrev pub MayStand : List Event → ℕ → Event → Type 0
MayStand es j (Starts x v) =
    ((i client : ℕ) (call : ClientCall) → i < j → ¬ IsAt es i (Begins client call)) × ((i y u : ℕ) → i < j → IsAt es i (Starts y u) → y < x)
MayStand es j (Begins client call) = (i : ℕ) (other : ClientCall) → ¬ IsOpen es client other i j
MayStand es j (Ends client ending) = (i : ℕ) × (call : ClientCall) × IsOpen es client call i j × Fits call ending

-- a log: each event may stand where it does
abbrev pub IsAllowed : List Event → Type 0
IsAllowed es = (j : ℕ) (e : Event) → IsAt es j e → MayStand es j e

-- a call of the run: its client, the place of its begin, what was called, and how it ended, if it did
pub record Call : Type 0 where
  pub client : ℕ
  pub place : ℕ
  pub call : ClientCall
  pub ending : Option Ending

-- how the pending call of a client ends in these events
abbrev pub ending_in : ℕ → List Event → Option Ending
ending_in client [] = None
ending_in client (Starts x v ∷ es) = ending_in client es
ending_in client (Begins other call ∷ es) = ending_in client es
ending_in client (Ends other ending ∷ es) = if other == client then Some ending else ending_in client es

-- the calls of events from the place i on, in the order of their begins
abbrev pub calls_from : ℕ → List Event → List Call
calls_from i [] = []
calls_from i (Starts x v ∷ es) = calls_from (i + 1) es
calls_from i (Begins client call ∷ es) =
    record { client = client; place = i; call = call; ending = ending_in client es } ∷ calls_from (i + 1) es
calls_from i (Ends client ending ∷ es) = calls_from (i + 1) es

abbrev pub run_calls : List Event → List Call
run_calls es = calls_from 0 es

-- the calls of a client
abbrev pub calls_of : ℕ → List Event → List Call
calls_of client es = filter (λ (a : Call). a.client == client) (run_calls es)
