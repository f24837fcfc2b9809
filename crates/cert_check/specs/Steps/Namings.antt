-- Lists of session numbers that name operations one after another, which the functions of the checker speak of among
-- themselves.
use Rattle.std.specs.Prelude.{◌≡◌, ◌≢◌, ℕ, ◌<◌, List, length, slice_index_or, take}
use Rattle.model_history.specs.declared.op_id.OpId.{OpId}
use Rattle.model_history.specs.History.{HistoryValue, IsOp}
use Rattle.order_causal.specs.Orders.{StandsAt}
use Rattle.order_causal.specs.Vectors.{Counts, IsCounted}
use Rattle.order_causal.specs.Schedules.{placed}
use Rattle.cert_check.specs.Schedules.{named, StandsBefore}

-- counts of n sessions: how often the first i numbers of a list name each
pub record AreCountsAt (list : List ℕ) (i n : ℕ) (counts : List ℕ) : Type 0 where
  pub width : length counts ≡ n
  pub each : (s : ℕ) → slice_index_or counts s 0 ≡ placed (take i list) s

module _ {S C R : Type 0} where
  -- what stands at the place i is of the history and comes after all others that its own vector counts
  pub record IsNamedWell (h : HistoryValue S C R) (v : Counts) (list : List ℕ) (i : ℕ) : Type 0 where
    pub existing : (o : OpId) → StandsAt (named list) i o → IsOp h o
    pub after_counted : (o a : OpId) → StandsAt (named list) i o → IsCounted v o a → a ≢ o → StandsBefore (named list) i a

  -- this is so at each place before i
  pub record AreNamedWell (h : HistoryValue S C R) (v : Counts) (list : List ℕ) (i : ℕ) : Type 0 where
    pub each : (j : ℕ) → j < i → IsNamedWell h v list j
