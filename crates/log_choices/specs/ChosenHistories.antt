-- The memory history that a log gives, by a choice of what its null reads saw.
use Rattle.std.specs.Prelude.{ℕ, ◌==◌, ◌&&◌, Bool, false, if◌then◌else◌, List, [], ◌∷◌, ◌++◌, map, filter_map, option_map}
use Rattle.std.specs.Prelude.{Option, Some, None}
use Rattle.std.specs.List.{list_any, range_with_len}
use Rattle.model_objects.specs.declared.register.RegisterRet.TheVariants.{Done, Value}
use Rattle.order_memory.specs.Memory.{MemoryHistory}
use Rattle.log_events.specs.declared.event.ClientCall.{ClientCall}
use Rattle.log_events.specs.declared.event.ClientCall.TheVariants.{ReadOf, DeleteOf}
use Rattle.log_events.specs.declared.event.Ending.{Ending}
use Rattle.log_events.specs.declared.event.Ending.TheVariants.{GotNothing, Lost}
use Rattle.log_events.specs.declared.event.Event.{Event}
use Rattle.log_events.specs.Events.{Call, run_calls, calls_of}
use Rattle.log_events.specs.Histories.{key, mark, nothing, deleted, Operation, write, read, clients, start_entry, is_deleted, operation}
use Rattle.log_events.specs.Histories.{fork}
use Rattle.log_choices.specs.Choices.{Choice}

-- the value that a read returned that saw the start, or the delete that began at a place
abbrev pub seen_value : Option ℕ → ℕ
seen_value None = nothing
seen_value (Some p) = deleted p

-- what a read saw is the delete that began at the place p
abbrev pub is_of_delete : ℕ → Option (Option ℕ) → Bool
is_of_delete p None = false
is_of_delete p (Some None) = false
is_of_delete p (Some (Some q)) = q == p

module _ (es : List Event) (f : Choice) where
  -- what a read of x that got nothing saw, by the place of its begin: the choice where some delete names the key, and else the start
  abbrev pub saw : ℕ → ℕ → Option (Option ℕ)
  saw place x = if is_deleted es x then f place else Some None

  -- a call is a read of x that saw the delete that began at the place p; some read of the run did
  abbrev pub sees : ℕ → ℕ → ℕ → ClientCall → Option Ending → Bool
  sees x p place (ReadOf y) (Some GotNothing) = (y == x) && is_of_delete p (saw place y)
  sees x p place call ending = false

  abbrev pub is_seen : ℕ → ℕ → Bool
  is_seen x p = list_any (λ (a : Call). sees x p a.place a.call a.ending) (run_calls es)

  -- the operation that stands in its client's session for the call that began at a place. A null read returns what it saw. Of a lost
  -- delete that was seen the write of its mark stands there, as of a lost write whose value was returned; of other calls the operation is
  -- that of the log
  abbrev pub operation_by : ℕ → ClientCall → Option Ending → Option Operation
  operation_by place (ReadOf x) (Some GotNothing) = option_map (λ c. read (key x) (Some (Value (seen_value c)))) (saw place x)
  operation_by place (DeleteOf x) (Some Lost) = if is_seen x place then Some (write (mark place) 1 (Some Done)) else None
  operation_by place call ending = operation es place call ending

  -- a lost delete that was seen forks off, as a lost write does whose value was returned
  abbrev pub fork_by : ℕ → ClientCall → Option Ending → Option (List Operation)
  fork_by place (DeleteOf x) (Some Lost) =
      if is_seen x place then Some (read (mark place) (Some (Value 1)) ∷ write (key x) (deleted place) None ∷ []) else None
  fork_by place call ending = fork es place call ending

  -- the session of a client, and the history: the clients' sessions, and then the forks
  abbrev pub client_session_by : ℕ → List Operation
  client_session_by client = filter_map (λ (a : Call). operation_by a.place a.call a.ending) (calls_of client es)

  abbrev pub fork_sessions_by : List (List Operation)
  fork_sessions_by = filter_map (λ (a : Call). fork_by a.place a.call a.ending) (run_calls es)

  abbrev pub history_by : MemoryHistory
  history_by = (filter_map start_entry es, map client_session_by (range_with_len 0 (clients es)) ++ fork_sessions_by)
