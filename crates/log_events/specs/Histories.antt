-- The memory history that the events of a log represent.
use Rattle.std.specs.Prelude.{ℕ, ◌+◌, ◌*◌, ◌==◌, ◌&&◌, max, Bool, false, if◌then◌else◌, List, [], ◌∷◌, ◌++◌, map, filter_map, Option, Some, None}
use Rattle.std.specs.List.{list_any, range_with_len}
use Rattle.model_objects.specs.declared.register.RegisterCall.TheVariants.{Write, Read}
use Rattle.model_objects.specs.declared.register.RegisterRet.{RegisterRet}
use Rattle.model_objects.specs.declared.register.RegisterRet.TheVariants.{Done, Value}
use Rattle.order_memory.specs.Memory.{MemoryCall, MemoryHistory}
use Rattle.log_events.specs.declared.event.ClientCall.{ClientCall}
use Rattle.log_events.specs.declared.event.ClientCall.TheVariants.{WriteTo, ReadOf, DeleteOf}
use Rattle.log_events.specs.declared.event.Ending.{Ending}
use Rattle.log_events.specs.declared.event.Ending.TheVariants.{Answered, Got, GotNothing, Failed, Lost}
use Rattle.log_events.specs.declared.event.Event.{Event}
use Rattle.log_events.specs.declared.event.Event.TheVariants.{Starts, Begins, Ends}
use Rattle.log_events.specs.Events.{Call, run_calls, calls_of}

-- variables: of a key, and the mark of the call that began at a place
abbrev pub key : ℕ → ℕ
key x = 2 * x

abbrev pub mark : ℕ → ℕ
mark place = 2 * place + 1

-- values: of a variable that holds nothing, of a value, and of the delete that began at a place
abbrev pub nothing : ℕ
nothing = 0

abbrev pub value : ℕ → ℕ
value v = 2 * v + 1

abbrev pub deleted : ℕ → ℕ
deleted place = 2 * place + 2

-- an operation of a history
abbrev pub Operation : Type 0
Operation = MemoryCall × Option RegisterRet

abbrev pub write : ℕ → ℕ → Option RegisterRet → Operation
write x v known = (record { key = x; call = Write v }, known)

abbrev pub read : ℕ → Option RegisterRet → Operation
read x known = (record { key = x; call = Read }, known)

-- a read of x got v
abbrev pub gets : ℕ → ℕ → ClientCall → Option Ending → Bool
gets x v (ReadOf y) (Some (Got u)) = (y == x) && (u == v)
gets x v call ending = false

-- a delete of x that did not fail
abbrev pub deletes : ℕ → ClientCall → Option Ending → Bool
deletes x (DeleteOf y) (Some Failed) = false
deletes x (DeleteOf y) ending = y == x
deletes x call ending = false

-- how many sessions the clients have: one more than the greatest number of a client
abbrev pub clients : List Event → ℕ
clients [] = 0
clients (Starts x v ∷ es) = clients es
clients (Begins client call ∷ es) = max (client + 1) (clients es)
clients (Ends client ending ∷ es) = clients es

-- what the start of a history has
abbrev pub start_entry : Event → Option (ℕ × ℕ)
start_entry (Starts x v) = Some (key x, value v)
start_entry (Begins client call) = None
start_entry (Ends client ending) = None

module _ (es : List Event) where
  -- some read of x got v; some delete of x did not fail
  abbrev pub is_returned : ℕ → ℕ → Bool
  is_returned x v = list_any (λ (a : Call). gets x v a.call a.ending) (run_calls es)

  abbrev pub is_deleted : ℕ → Bool
  is_deleted x = list_any (λ (a : Call). deletes x a.call a.ending) (run_calls es)

  -- the operation that stands in its client's session for the call that began at a place: of a lost write the write of its mark, if
  -- the value was returned; none for a read that got nothing of a key that some delete names
  abbrev pub operation : ℕ → ClientCall → Option Ending → Option Operation
  operation place (WriteTo x v) None = Some (write (key x) (value v) None)
  operation place (WriteTo x v) (Some Answered) = Some (write (key x) (value v) (Some Done))
  operation place (WriteTo x v) (Some Lost) = if is_returned x v then Some (write (mark place) 1 (Some Done)) else None
  operation place (ReadOf x) None = Some (read (key x) None)
  operation place (ReadOf x) (Some (Got v)) = Some (read (key x) (Some (Value (value v))))
  operation place (ReadOf x) (Some GotNothing) = if is_deleted x then None else Some (read (key x) (Some (Value nothing)))
  operation place (DeleteOf x) None = Some (write (key x) (deleted place) None)
  operation place (DeleteOf x) (Some Answered) = Some (write (key x) (deleted place) (Some Done))
  operation place call ending = None

  -- a lost write whose value was returned forks off: a session of its own reads its mark and then writes
  abbrev pub fork : ℕ → ClientCall → Option Ending → Option (List Operation)
  fork place (WriteTo x v) (Some Lost) =
      if is_returned x v then Some (read (mark place) (Some (Value 1)) ∷ write (key x) (value v) None ∷ []) else None
  fork place call ending = None

  -- the session of a client, and the history: the clients' sessions, and then the forks
  abbrev pub operations : List Call → List Operation
  operations calls = filter_map (λ (a : Call). operation a.place a.call a.ending) calls

  abbrev pub client_session : ℕ → List Operation
  client_session client = operations (calls_of client es)

  abbrev pub fork_sessions : List (List Operation)
  fork_sessions = filter_map (λ (a : Call). fork a.place a.call a.ending) (run_calls es)

  abbrev pub history_of : MemoryHistory
  history_of = (filter_map start_entry es, map client_session (range_with_len 0 (clients es)) ++ fork_sessions)
