-- What must have been named before an operation, where all that was named came after what its own vector counts: one
-- operation of another session represents all that it counts.
use Rattle.std.specs.Prelude.{⊤, ◌≡◌, ◌≢◌, ◌⊎◌, ℕ, zero, suc, ◌+◌, ◌<◌, ◌≤◌, List, [], slice_index_or}
use Rattle.model_history.specs.declared.op_id.OpId.{OpId}
use Rattle.order_causal.specs.Orders.{op}
use Rattle.order_causal.specs.Vectors.{Counts, count, list_of}
use Rattle.cert_check.specs.declared.need.Need.{Need}
use Rattle.cert_check.specs.declared.need.Need.TheVariants.{Nothing, After, Everything}

-- the vector of the operation before a place of a session: no counts before the first
abbrev pub vector_before : Counts → ℕ → ℕ → List ℕ
vector_before v s zero = []
vector_before v s (suc i) = list_of v (op s i)

-- a count of the session s is at most that of one of two vectors, or of operations up to o in its own session
abbrev pub IsCountCovered : ℕ → List ℕ → List ℕ → ℕ → OpId → Type 0
IsCountCovered n before other s o = (n ≤ slice_index_or before s 0)
    ⊎ ((n ≤ slice_index_or other s 0) ⊎ ((s ≡ o.session) × (n ≤ o.index + 1)))

-- each count of a vector is such
pub record IsCovered (vector before other : List ℕ) (o : OpId) : Type 0 where
  pub each : (s : ℕ) → IsCountCovered (slice_index_or vector s 0) before other s o

-- what the vector of o counts is counted by the operation before it or by the one that it needs, which it counts
abbrev pub IsNeedOf : Counts → OpId → Need → Type 0
IsNeedOf v o Nothing = IsCovered (list_of v o) (vector_before v o.session o.index) [] o
IsNeedOf v o (After s i) =
    (s ≢ o.session) × (count v o s ≡ i + 1) × IsCovered (list_of v o) (vector_before v o.session o.index) (list_of v (op s i)) o
IsNeedOf v o Everything = ⊤

-- the running counts hold what an operation needs
abbrev pub IsMet : Counts → OpId → List ℕ → Need → Type 0
IsMet v o counts Nothing = ⊤
IsMet v o counts (After s i) = i < slice_index_or counts s 0
IsMet v o counts Everything = (s : ℕ) → count v o s ≤ slice_index_or counts s 0

-- the need that is listed for an operation
abbrev pub need_of : List (List Need) → OpId → Need
need_of needs o = slice_index_or (slice_index_or needs o.session []) o.index Everything

-- each need that is listed is that of its operation
pub record AreNeedsOf (v : Counts) (needs : List (List Need)) : Type 0 where
  pub each : (o : OpId) → IsNeedOf v o (need_of needs o)
