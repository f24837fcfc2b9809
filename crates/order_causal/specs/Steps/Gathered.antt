-- Lists by operation, gathered session by session and operation by operation.
use Rattle.std.specs.Prelude.{◌≡◌, ℕ, ◌+◌, ◌<◌, List, [], length, slice_index_or}
use Rattle.model_history.specs.declared.op_id.OpId.{OpId}
use Rattle.model_history.specs.History.{HistoryValue, session}
use Rattle.order_causal.specs.Orders.{op}
use Rattle.order_causal.specs.Vectors.{IsListed, ByOperation, list_of}

module _ {S C R A : Type 0} where
  -- a list for each operation of the sessions before s, each with a property
  pub record AreGatheredBefore (h : HistoryValue S C R) (holds : OpId → List A → Type 0) (s : ℕ) (lists : ByOperation A) : Type 0 where
    pub sessions : length lists ≡ s
    pub operations : (t : ℕ) → t < s → length (slice_index_or lists t []) ≡ length (session h t)
    pub each : (o : OpId) → IsListed lists o → holds o (list_of lists o)

  -- and for the first i operations of the session s
  pub record AreGatheredUpTo (h : HistoryValue S C R) (holds : OpId → List A → Type 0) (s i : ℕ) (lists : ByOperation A) : Type 0 where
    pub sessions : length lists ≡ s + 1
    pub operations : (t : ℕ) → t < s → length (slice_index_or lists t []) ≡ length (session h t)
    pub here : length (slice_index_or lists s []) ≡ i
    pub each : (o : OpId) → IsListed lists o → holds o (list_of lists o)

-- lists for the first i operations of the session s, each with a property
pub record AreListsUpTo {A : Type 0} (holds : OpId → List A → Type 0) (s i : ℕ) (lists : List (List A)) : Type 0 where
  pub operations : length lists ≡ i
  pub each : (j : ℕ) → j < i → holds (op s j) (slice_index_or lists j [])

-- a list for each operation of the session s, each with a property
abbrev pub AreListsOf : {S C R A : Type 0} → HistoryValue S C R → (OpId → List A → Type 0) → ℕ → List (List A) → Type 0
AreListsOf h holds s lists = AreListsUpTo holds s (length (session h s)) lists
