-- What the columns of sessions show together.
use Rattle.std.specs.Prelude.{◌≡◌, ◌↔◌, ℕ, ◌<◌, Bool, IsTrue, List, Some, slice_get}
use Rattle.model_history.specs.declared.op_id.OpId.{OpId}
use Rattle.model_history.specs.History.{IsOp, number}
use Rattle.order_memory.specs.Memory.{MemoryHistory}
use Rattle.order_memory.specs.Relations.{CF}
use Rattle.judge_memory.specs.Steps.{many}
use Rattle.judge_columns.specs.Conflicts.{IsReducedIn}
use Rattle.judge_columns.specs.LastWrites.{HasOverwrittenReadBy, HasOverwrittenStartFrom}

-- t stands at one of the first i places of the list
abbrev pub IsListed : List ℕ → ℕ → ℕ → Type 0
IsListed sessions i t = (k : ℕ) × (k < i) × (slice_get sessions k ≡ Some t)

-- the list has the edge
abbrev pub HasEdge : List (ℕ × ℕ) → ℕ → ℕ → Type 0
HasEdge edges from to = (j : ℕ) × (slice_get edges j ≡ Some (from, to))

-- edges go between numbers of operations
abbrev pub AreEdgesOf : MemoryHistory → List (ℕ × ℕ) → Type 0
AreEdgesOf h edges = (j from to : ℕ) → slice_get edges j ≡ Some (from, to) → (from < many h) × (to < many h)

-- an edge goes from the number of a to that of w
abbrev pub IsNumberedEdge : MemoryHistory → (ℕ → ℕ → Type 0) → OpId → OpId → Type 0
IsNumberedEdge h edge a w = IsOp h a × IsOp h w × edge (number h a) (number h w)

-- the flags and the edges are those of the sessions
pub record AreSwept (h : MemoryHistory) (sessions : ℕ → Type 0) (start read : Bool) (edge : ℕ → ℕ → Type 0) : Type 0 where
  pub starts : IsTrue start ↔ ((t : ℕ) × sessions t × HasOverwrittenStartFrom h t)
  pub reads : IsTrue read ↔ ((t : ℕ) × sessions t × HasOverwrittenReadBy h t)
  pub sound : ¬ IsTrue read → (a w : OpId) → IsNumberedEdge h edge a w → CF h a w
  pub reduced : ¬ IsTrue read → (t : ℕ) → sessions t → IsReducedIn h t (IsNumberedEdge h edge)
  pub below : (from to : ℕ) → edge from to → (from < many h) × (to < many h)
