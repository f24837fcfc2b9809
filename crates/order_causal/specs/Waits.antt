-- What operations wait for, besides those before them in their session; in which order they can follow one another, and
-- when they can't.
use Rattle.std.specs.Prelude.{◌≡◌, ◌≢◌, ◌⊎◌, ℕ, ◌+◌, ◌-◌, ◌<◌, ◌≤◌, List, [], length, take, slice_get, Some, slice_index_or}
use Rattle.model_history.specs.declared.limits.TheConstants.{MAX_OPERATIONS, MAX_SESSIONS}
use Rattle.model_history.specs.declared.op_id.OpId.{OpId}
use Rattle.model_history.specs.History.{Precedes}
use Rattle.order_causal.specs.Orders.{StandsAt, IsPath, Leads}
use Rattle.order_causal.specs.Vectors.{IsListed, Counts, count, IsCounted}
use Rattle.order_causal.specs.Topological.{AreSquare}
use Rattle.order_causal.specs.Schedules.{placed, next_of}
use Rattle.order_causal.specs.declared.sorting.OrderOrCycle.{OrderOrCycle}
use Rattle.order_causal.specs.declared.sorting.OrderOrCycle.TheVariants.{Order, Cycle}

-- two lists by operation are of the same operations
pub record AreAlike {A B : Type 0} (xs : List (List A)) (ys : List (List B)) : Type 0 where
  pub sessions : length xs ≡ length ys
  pub operations : (s : ℕ) → length (slice_index_or xs s []) ≡ length (slice_index_or ys s [])

module _ (waits : Counts) where
  -- at most 16 sessions of at most 256 operations, with one count of each session for each operation, of no more operations
  -- than are there
  pub record AreWaits : Type 0 where
    pub few : length waits ≤ MAX_SESSIONS
    pub short : (s : ℕ) → length (slice_index_or waits s []) ≤ MAX_OPERATIONS
    pub square : AreSquare waits
    pub held : (o : OpId) (s : ℕ) → count waits o s ≤ length (slice_index_or waits s [])

  -- o waits for another operation a: the list of o counts it
  abbrev pub WaitsFor : OpId → OpId → Type 0
  WaitsFor o a = IsCounted waits o a × (a ≢ o)

  -- and a is the last of its session for which it waits
  abbrev pub IsAwaited : OpId → OpId → Type 0
  IsAwaited o a = (count waits o a.session ≡ a.index + 1) × (a ≢ o)

  -- an edge: program order, or from such an operation to the one that waits for it
  abbrev pub IsWaitEdge : OpId → OpId → Type 0
  IsWaitEdge a b = (Precedes a b × IsListed waits b) ⊎ IsAwaited b a

  -- the next operation of the session s behind a schedule is there, and what it waits for is placed
  pub record CanFollow (schedule : List ℕ) (s : ℕ) : Type 0 where
    pub there : IsListed waits (next_of schedule s)
    pub ready : (a : OpId) → WaitsFor (next_of schedule s) a → a.index < placed schedule a.session

  -- a schedule of all operations that names at each place the least session whose next operation can follow there
  pub record IsTopologicalOrder (schedule : List ℕ) : Type 0 where
    pub can : (k s : ℕ) → slice_get schedule k ≡ Some s → CanFollow (take k schedule) s
    pub least : (k s t : ℕ) → slice_get schedule k ≡ Some s → t < s → ¬ CanFollow (take k schedule) t
    pub whole : (s : ℕ) → placed schedule s ≡ length (slice_index_or waits s [])

  -- a path of at least one edge that ends where it begins
  pub record IsWaitingCycle (ops : List OpId) : Type 0 where
    pub joined : IsPath IsWaitEdge ops
    pub some : 1 < length ops
    pub closed : (a : OpId) × StandsAt ops 0 a × StandsAt ops (length ops - 1) a

  -- what a topological sort answers: an order, and then no operation leads to itself, or a cycle
  abbrev pub IsSorted : OrderOrCycle → Type 0
  IsSorted (Order schedule) = IsTopologicalOrder schedule.items × ((a : OpId) → ¬ Leads IsWaitEdge a a)
  IsSorted (Cycle ops) = IsWaitingCycle ops.items

-- an operation waits for those that have to come before it, and for no others but those before them in their session
pub record AreWaitsFor (first : OpId → OpId → Type 0) (waits : Counts) : Type 0 where
  pub each : (a o : OpId) → first a o → IsCounted waits o a
  pub last : (a o : OpId) → count waits o a.session ≡ a.index + 1 → first a o
