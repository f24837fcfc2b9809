-- The calls of the operations in the history of a log by a choice.
use Rattle.std.specs.Prelude.{◌≡◌, ◌⊎◌, ℕ, Contains, List, [], ◌∷◌, ◌++◌, map, filter, filter_map, length, Some, option_map}
use Rattle.std.specs.Prelude.{slice_get, slice_index_or}
use Rattle.std.specs.List.{range_with_len}
use Rattle.std.specs.Option.{is_some}
use Rattle.model_history.specs.declared.op_id.OpId.{OpId}
use Rattle.model_history.specs.History.{IsOp, entry}
use Rattle.log_events.specs.declared.event.Event.{Event}
use Rattle.log_events.specs.Events.{Call, run_calls, calls_of}
use Rattle.log_events.specs.Histories.{Operation, clients}
use Rattle.log_choices.specs.Choices.{Choice}
use Rattle.log_choices.specs.ChosenHistories.{operation_by, fork_by, history_by}

module _ (es : List Event) (f : Choice) where
  -- the calls of a client that have an operation in its session
  abbrev pub client_origins_by : ℕ → List Call
  client_origins_by client = filter (λ (a : Call). is_some (operation_by es f a.place a.call a.ending)) (calls_of client es)

  -- both operations of a fork are of one lost call
  abbrev pub fork_origins_by : List (List Call)
  fork_origins_by =
      filter_map (λ (a : Call). option_map (λ (l : List Operation). a ∷ a ∷ []) (fork_by es f a.place a.call a.ending)) (run_calls es)

  -- for each session of the history the calls of its operations
  abbrev pub origins_by : List (List Call)
  origins_by = map client_origins_by (range_with_len 0 (clients es)) ++ fork_origins_by

  -- the operation o of the history is of the call a: in the session of its client, or in a fork of it
  abbrev pub IsOfCall : OpId → Call → Type 0
  IsOfCall o a =
      ((o.session ≡ a.client) × (entry (history_by es f) o ≡ operation_by es f a.place a.call a.ending))
      ⊎ ((l : List Operation) × (fork_by es f a.place a.call a.ending ≡ Some l) × (entry (history_by es f) o ≡ slice_get l o.index))

  -- these calls are listed as the operations of the history are: each operation is of the call at its place
  pub record AreOriginsBy (calls : List (List Call)) : Type 0 where
    pub sessions : length calls ≡ length (history_by es f).1
    pub each : (o : OpId) → IsOp (history_by es f) o
        → (a : Call) × (slice_get (slice_index_or calls o.session []) o.index ≡ Some a) × Contains (run_calls es) a × IsOfCall o a
