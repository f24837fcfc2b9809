-- The calls that the operations of the history of a log represent.
use Rattle.std.specs.Prelude.{◌≡◌, ◌⊎◌, ℕ, Contains, List, [], ◌∷◌, ◌++◌, map, filter, filter_map, length, Some, option_map, slice_get, slice_index_or}
use Rattle.std.specs.List.{range_with_len}
use Rattle.std.specs.Option.{is_some}
use Rattle.model_history.specs.declared.op_id.OpId.{OpId}
use Rattle.model_history.specs.History.{IsOp, entry}
use Rattle.log_events.specs.declared.event.Event.{Event}
use Rattle.log_events.specs.Events.{Call, run_calls, calls_of}
use Rattle.log_events.specs.Histories.{Operation, clients, operation, fork, history_of}

module _ (es : List Event) where
  -- the calls of a client that have an operation in its session
  abbrev pub client_origins : ℕ → List Call
  client_origins client = filter (λ (a : Call). is_some (operation es a.place a.call a.ending)) (calls_of client es)

  -- both operations of a fork represent one lost write
  abbrev pub fork_origins : List (List Call)
  fork_origins = filter_map (λ (a : Call). option_map (λ (l : List Operation). a ∷ a ∷ []) (fork es a.place a.call a.ending)) (run_calls es)

  -- for each session of the history the calls of its operations
  abbrev pub origins_of : List (List Call)
  origins_of = map client_origins (range_with_len 0 (clients es)) ++ fork_origins

  -- the operation o of the history represents the call a: in the session of its client, or in a fork of it
  abbrev pub StandsFor : OpId → Call → Type 0
  StandsFor o a =
      ((o.session ≡ a.client) × (entry (history_of es) o ≡ operation es a.place a.call a.ending))
      ⊎ ((l : List Operation) × (fork es a.place a.call a.ending ≡ Some l) × (entry (history_of es) o ≡ slice_get l o.index))

  -- these calls are listed as the operations of the history are: each operation represents the call at its place
  pub record AreOrigins (calls : List (List Call)) : Type 0 where
    pub sessions : length calls ≡ length (history_of es).1
    pub each : (o : OpId) → IsOp (history_of es) o
        → (a : Call) × (slice_get (slice_index_or calls o.session []) o.index ≡ Some a) × Contains (run_calls es) a × StandsFor o a
