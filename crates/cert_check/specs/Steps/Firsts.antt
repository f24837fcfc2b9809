-- The first operation of a session that is not explained, as the functions of the checker speak of it among themselves.
use Rattle.std.specs.Prelude.{◌≡◌, ℕ, ◌<◌, Option, MatchOption}
use Rattle.model_history.specs.declared.op_id.OpId.{OpId}
use Rattle.model_history.specs.History.{HistoryValue, IsOp}
use Rattle.order_causal.specs.Orders.{op}

module _ {S C R : Type 0} where
  -- it is the first operation of the session s that is not explained, or there is none
  abbrev pub IsFirstOfSession : HistoryValue S C R → (OpId → Type 0) → ℕ → Option OpId → Type 0
  IsFirstOfSession h explained s first = MatchOption first
      ((i : ℕ) → IsOp h (op s i) → explained (op s i))
      (λ o. (o.session ≡ s) × IsOp h o × (¬ explained o) × ((i : ℕ) → i < o.index → explained (op s i)))
