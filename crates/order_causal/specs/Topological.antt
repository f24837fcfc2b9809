-- The topological rule: operations are placed one after another, each after those that its vector counts (Kahn,
-- "Topological sorting of large networks", 1962).
use Rattle.std.specs.Prelude.{◌≡◌, ◌≢◌, ℕ, ◌<◌, ◌≤◌, List, Some, length, take, slice_get, slice_index_or}
use Rattle.model_history.specs.declared.op_id.OpId.{OpId}
use Rattle.order_causal.specs.Schedules.{placed, next_of}
use Rattle.order_causal.specs.Vectors.{Counts, count, list_of, IsListed}

-- each vector has one count for each session
abbrev pub AreSquare : Counts → Type 0
AreSquare v = (o : OpId) → IsListed v o → length (list_of v o) ≡ length v

module _ (v : Counts) (limits : List ℕ) where
  -- behind a schedule the session s can go on: its next operation is there and below the limit, and all that its vector
  -- counts of other sessions is placed
  pub record CanGoOn (schedule : List ℕ) (s : ℕ) : Type 0 where
    pub there : IsListed v (next_of schedule s)
    pub below : placed schedule s < slice_index_or limits s 0
    pub ready : (t : ℕ) → t ≢ s → count v (next_of schedule s) t ≤ placed schedule t

  -- the least session that can go on
  pub record IsNext (schedule : List ℕ) (s : ℕ) : Type 0 where
    pub can : CanGoOn schedule s
    pub least : (t : ℕ) → t < s → ¬ CanGoOn schedule t

  -- behind a first schedule the whole one names, at each place, the least session that can go on there
  pub record IsWalk (before whole : List ℕ) : Type 0 where
    pub extends : take (length before) whole ≡ before
    pub each : (k s : ℕ) → length before ≤ k → slice_get whole k ≡ Some s → IsNext (take k whole) s

  -- and no session can go on behind it
  pub record IsFullWalk (before whole : List ℕ) : Type 0 where
    pub walk : IsWalk before whole
    pub ended : (s : ℕ) → ¬ CanGoOn whole s

-- how many operations of each session a schedule places, for so many sessions
pub record IsTally (sessions : ℕ) (schedule counts : List ℕ) : Type 0 where
  pub size : length counts ≡ sessions
  pub each : (s : ℕ) → slice_index_or counts s 0 ≡ placed schedule s

-- for each session, sessions before which the vector of its next operation counts nothing that isn't placed
abbrev pub AreSeen : Counts → List ℕ → List ℕ → Type 0
AreSeen v schedule seen =
    (s t : ℕ) → t < slice_index_or seen s 0 → t ≢ s → count v (next_of schedule s) t ≤ placed schedule t
