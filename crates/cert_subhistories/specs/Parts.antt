-- Parts of histories: in each session the operations that are kept, in their order (this project's profile).
use Rattle.std.specs.Prelude.{ℕ, Bool, false, List, Option, map, filter, option_map, unwrap_or}
use Rattle.std.specs.List.{enumerate_from}
use Rattle.model_objects.specs.declared.keyed.KeyedCall.{KeyedCall}
use Rattle.model_history.specs.declared.op_id.OpId.{OpId}
use Rattle.model_history.specs.History.{HistoryValue, entry}
use Rattle.order_causal.specs.Orders.{Ops, op}

module _ {C R : Type 0} where
  -- of the operations of the session s those that are kept: whether one is, its place and its call say
  abbrev pub kept_of_session : (OpId → C → Bool) → ℕ → List (C × Option R) → List (C × Option R)
  kept_of_session kept s es =
      map (λ (e : ℕ × (C × Option R)). e.1) (filter (λ (e : ℕ × (C × Option R)). kept (op s e.0) e.1.0) (enumerate_from 0 es))

module _ {S C R : Type 0} where
  -- the part of a history that is kept, from the same start; a session of which nothing is kept stands empty
  abbrev pub part_by : (OpId → C → Bool) → HistoryValue S C R → HistoryValue S C R
  part_by kept h = (h.0, map (λ (e : ℕ × List (C × Option R)). kept_of_session kept e.0 e.1) (enumerate_from 0 h.1))

  -- the operations of a history that are kept
  abbrev pub kept_of : (OpId → C → Bool) → HistoryValue S C R → Ops
  kept_of kept h o = unwrap_or (option_map (λ (e : C × Option R). kept o e.0) (entry h o)) false

-- of a keyed object's operations those at some keys
abbrev pub at_keys : {C : Type 0} → (ℕ → Bool) → OpId → KeyedCall C → Bool
at_keys keys o c = keys c.key
