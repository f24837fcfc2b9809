-- What the functions of a topological sort say to one another.
use Rattle.std.specs.Prelude.{◌≡◌, ◌≢◌, ◌⊎◌, ℕ, ◌+◌, ◌-◌, ◌<◌, ◌≤◌, max, List, [], length, slice_index_or}
use Rattle.model_history.specs.declared.op_id.OpId.{OpId}
use Rattle.order_causal.specs.Orders.{op, StandsAt, IsPath}
use Rattle.order_causal.specs.Vectors.{IsListed, Counts, count}
use Rattle.order_causal.specs.Schedules.{placed, next_of}
use Rattle.order_causal.specs.Waits.{AreAlike, CanFollow, IsAwaited, IsWaitEdge}

-- one count for each of the sessions, and all are 0
pub record AreZeros (sessions : ℕ) (counts : List ℕ) : Type 0 where
  pub size : length counts ≡ sessions
  pub zero : (s : ℕ) → slice_index_or counts s 0 ≡ 0

-- o waits for a too
pub record AddsWait (o a : OpId) (before after : Counts) : Type 0 where
  pub alike : AreAlike after before
  pub raised : count after o a.session ≡ max (count before o a.session) (a.index + 1)
  pub others : (p : OpId) (s : ℕ) → (count after p s ≡ count before p s) ⊎ ((p ≡ o) × (s ≡ a.session))

-- n is how many operations of the session s come before the first that waits for a later one of the session
pub record IsLimit (waits : Counts) (s n : ℕ) : Type 0 where
  pub within : n ≤ length (slice_index_or waits s [])
  pub before : (i : ℕ) → i < n → count waits (op s i) s ≤ i + 1
  pub first : n < length (slice_index_or waits s []) → n + 1 < count waits (op s n) s

-- limits for each session
pub record AreLimits (waits : Counts) (limits : List ℕ) : Type 0 where
  pub size : length limits ≡ length waits
  pub each : (s : ℕ) → s < length waits → IsLimit waits s (slice_index_or limits s 0)

module _ (waits : Counts) (schedule : List ℕ) where
  -- the session s has an operation that a schedule doesn't place
  abbrev pub IsOpen : ℕ → Type 0
  IsOpen s = placed schedule s < length (slice_index_or waits s [])

  -- no session can go on
  abbrev pub IsStuck : Type 0
  IsStuck = (s : ℕ) → ¬ CanFollow waits schedule s

  -- an operation that isn't placed
  abbrev pub IsUnplaced : OpId → Type 0
  IsUnplaced a = IsListed waits a × (placed schedule a.session ≤ a.index)

  -- operations that are not placed, each of them awaited by the next operation of the session of the one before it
  pub record IsChain (ops : List OpId) : Type 0 where
    pub unplaced : (j : ℕ) (a : OpId) → StandsAt ops j a → IsUnplaced a
    pub awaited : (j : ℕ) (a b : OpId) → StandsAt ops j a → StandsAt ops (j + 1) b → IsAwaited waits (next_of schedule a.session) b

-- a path from a to b
pub record IsRoute (waits : Counts) (ops : List OpId) (a b : OpId) : Type 0 where
  pub joined : IsPath (IsWaitEdge waits) ops
  pub first : StandsAt ops 0 a
  pub last : StandsAt ops (length ops - 1) b

-- i and j are the places of two operations of one session
pub record IsRepetition (ops : List OpId) (i j : ℕ) : Type 0 where
  pub ordered : i < j
  pub inside : j < length ops
  pub same : (a b : OpId) → StandsAt ops i a → StandsAt ops j b → a.session ≡ b.session

-- none of the operations before a place is of the session s
abbrev pub AreOfOthers : List OpId → ℕ → ℕ → Type 0
AreOfOthers ops end s = (i : ℕ) (a : OpId) → i < end → StandsAt ops i a → a.session ≢ s

-- i is the place of an operation of the session s, before another place
abbrev pub IsPlaceOf : List OpId → ℕ → ℕ → ℕ → Type 0
IsPlaceOf ops end s i = (i < end) × ((a : OpId) → StandsAt ops i a → a.session ≡ s)
