-- Lists of the sources of operations, and the order that sources and program order make.
use Rattle.std.specs.Prelude.{◌≡◌, ◌⊎◌, ◌↔◌, ℕ, ◌<◌, ◌≤◌, List, [], length, Option, Some, slice_get, slice_index_or}
use Rattle.model_history.specs.declared.limits.TheConstants.{MAX_OPERATIONS}
use Rattle.model_history.specs.declared.op_id.OpId.{OpId}
use Rattle.model_history.specs.History.{Precedes}
use Rattle.order_causal.specs.Orders.{op, Leads}
use Rattle.order_causal.specs.Vectors.{Counts, list_of, IsCounted, IsListed}

-- for each session, for each of its operations, the operation that it waits for besides the one before it, or none
abbrev pub Sources : Type 0
Sources = List (List (Option OpId))

-- the source of the operation o is w
abbrev pub HasSource : Sources → OpId → OpId → Type 0
HasSource sources o w = slice_get (slice_index_or sources o.session []) o.index ≡ Some (Some w)

-- each source is one of the operations
abbrev pub AreListed : Sources → Type 0
AreListed sources = (o w : OpId) → HasSource sources o w → IsListed sources w

-- each session has at most 256 operations
abbrev pub AreShort : Sources → Type 0
AreShort sources = (s : ℕ) → length (slice_index_or sources s []) ≤ MAX_OPERATIONS

-- an edge: program order, or from a source to the operation that it is the source of
abbrev pub IsStep : Sources → OpId → OpId → Type 0
IsStep sources a b = (Precedes a b × IsListed sources b) ⊎ HasSource sources b a

-- the transitive closure of these edges
abbrev pub Comes : Sources → OpId → OpId → Type 0
Comes sources a b = Leads (IsStep sources) a b

-- the session s has an operation without a vector
abbrev pub IsUnfinished : Sources → Counts → ℕ → Type 0
IsUnfinished sources v s = length (slice_index_or v s []) < length (slice_index_or sources s [])

-- the first operation of the session s without a vector
abbrev pub next : Counts → ℕ → OpId
next v s = op s (length (slice_index_or v s []))

-- there is one, and its source, if it has one, has a vector
pub record IsReady (sources : Sources) (v : Counts) (s : ℕ) : Type 0 where
  pub unfinished : IsUnfinished sources v s
  pub source : (w : OpId) → HasSource sources (next v s) w → IsListed v w

-- the first operations of each session have vectors, those before an operation with a vector have one too, and the
-- vectors count what comes before
pub record AreVectorsSoFar (sources : Sources) (v : Counts) : Type 0 where
  pub sessions : length v ≡ length sources
  pub within : (s : ℕ) → length (slice_index_or v s []) ≤ length (slice_index_or sources s [])
  pub counts : (o : OpId) → IsListed v o → length (list_of v o) ≡ length sources
  pub closed : (a o : OpId) → IsStep sources a o → IsListed v o → IsListed v a
  pub exact : (o a : OpId) → IsListed v o → IsCounted v o a ↔ ((a ≡ o) ⊎ Comes sources a o)
  pub acyclic : (o : OpId) → IsListed v o → ¬ Comes sources o o
