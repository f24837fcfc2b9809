-- The operation of a history of a log by which a call took effect.
use Rattle.std.specs.Prelude.{◌≡◌, ◌≢◌, ◌⊎◌, ℕ, ◌+◌, ◌==◌, List, Some, filter, filter_map, length, nat_lt, slice_get}
use Rattle.model_history.specs.declared.op_id.OpId.{OpId}
use Rattle.order_causal.specs.Orders.{op}
use Rattle.log_events.specs.declared.event.Ending.TheVariants.{Lost}
use Rattle.log_events.specs.declared.event.Event.{Event}
use Rattle.log_events.specs.Events.{Call, run_calls}
use Rattle.log_events.specs.Histories.{Operation, clients}
use Rattle.log_choices.specs.Choices.{Choice}
use Rattle.log_choices.specs.ChosenHistories.{operation_by, fork_by}

module _ (es : List Event) (f : Choice) where
  -- the calls that are begun before a place; how many operations a client's session has of them, and how many forks they have
  abbrev pub calls_before : ℕ → List Call
  calls_before p = filter (λ (a : Call). nat_lt a.place p) (run_calls es)

  abbrev pub operations_before : ℕ → ℕ → ℕ
  operations_before client p =
      length
      (filter_map (λ (a : Call). operation_by es f a.place a.call a.ending) (filter (λ (a : Call). a.client == client) (calls_before p)))

  abbrev pub forks_before : ℕ → ℕ
  forks_before p = length (filter_map (λ (a : Call). fork_by es f a.place a.call a.ending) (calls_before p))

  -- o is the operation by which a call took effect: the one in its client's session, or where it was lost, the second of its fork
  abbrev pub IsEffectOf : Call → OpId → Type 0
  IsEffectOf a o =
      ((e : Operation) × (operation_by es f a.place a.call a.ending ≡ Some e) × (a.ending ≢ Some Lost)
      × (o ≡ op a.client (operations_before a.client a.place)))
      ⊎ ((l : List Operation) × (fork_by es f a.place a.call a.ending ≡ Some l) × (o ≡ op (clients es + forks_before a.place) 1))

  -- the call that begins at the place p took effect by the operation o
  abbrev pub TookEffectBy : ℕ → OpId → Type 0
  TookEffectBy p o = (a : Call) × (k : ℕ) × (slice_get (run_calls es) k ≡ Some a) × (a.place ≡ p) × IsEffectOf a o
