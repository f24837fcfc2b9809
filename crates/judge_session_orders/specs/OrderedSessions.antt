-- What some sessions of a list show.
use Rattle.std.specs.Prelude.{◌≡◌, ◌⊎◌, ℕ, ◌<◌, ◌≤◌, List, slice_index_or, IfOk, IfSome, None, Option, Result, Some}
use Rattle.judge_workers.specs.Numbers.{HasNumber}
use Rattle.order_memory.specs.Memory.{MemoryHistory}
use Rattle.judge_session_orders.specs.SessionOrders.{AreOrdered, IsOrderedSession}
use Rattle.judge_session_orders.specs.declared.ordering.OrderedSessions.{OrderedSessions}
use Rattle.judge_session_orders.specs.declared.ordering.Unexplained.{Unexplained}

module _ (h : MemoryHistory) (sessions : List ℕ) where
  -- the session at a place is ordered
  abbrev pub IsOrderedAt : ℕ → Type 0
  IsOrderedAt k = IsOrderedSession h (slice_index_or sessions k 0)

  -- those at these places are, and one that was found without an order shows its kind
  pub record AreOrderedSessions (found : OrderedSessions) : Type 0 where
    pub each : (k : ℕ) → HasNumber found.places.items k → IsOrderedAt k
    pub unexplained : IfSome found.unexplained (λ u. AreOrdered h u.order)

  -- each of n results, if it is no error, is that
  abbrev pub AreClaimed : {E : Type 0} → (n : ℕ) → List (Result OrderedSessions E) → Type 0
  AreClaimed n results = (i : ℕ) (d : Result OrderedSessions _) → i < n → IfOk (slice_index_or results i d) AreOrderedSessions

-- r is the one of two that is at the lesser place, if there is one
pub record IsEarlier (a b r : Option Unexplained) : Type 0 where
  pub one : (r ≡ a) ⊎ (r ≡ b)
  pub none : r ≡ None → (a ≡ None) × (b ≡ None)
  pub first : (u v : Unexplained) → r ≡ Some u → (a ≡ Some v) ⊎ (b ≡ Some v) → u.place ≤ v.place
