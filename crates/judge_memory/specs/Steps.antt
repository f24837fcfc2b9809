-- The causal order by steps, and lists of all operations in such an order.
use Rattle.std.specs.Prelude.{◌≡◌, ◌⊎◌, ℕ, ◌+◌, ◌<◌, ◌≤◌, List, length, Some, slice_get}
use Rattle.model_history.specs.declared.op_id.OpId.{OpId}
use Rattle.model_history.specs.History.{IsOp, many_before, number}
use Rattle.order_memory.specs.Memory.{MemoryHistory}
use Rattle.order_memory.specs.Relations.{ReadsFrom}

-- how many operations the history has
abbrev pub many : MemoryHistory → ℕ
many h = many_before h (length h.1)

module _ (h : MemoryHistory) where
  -- b is the next operation of the session of a
  abbrev pub IsNext : OpId → OpId → Type 0
  IsNext a b = (a.session ≡ b.session) × (b.index ≡ a.index + 1) × IsOp h b

  -- b is that, or reads from a
  abbrev pub IsStep : OpId → OpId → Type 0
  IsStep a b = IsNext a b ⊎ ReadsFrom h a b

-- an edge of a list of pairs of numbers goes from a to b
abbrev pub IsListedEdge : MemoryHistory → List (ℕ × ℕ) → OpId → OpId → Type 0
IsListedEdge h edges a b = (j : ℕ) × (slice_get edges j ≡ Some (number h a, number h b)) × IsOp h a × IsOp h b

module _ (h : MemoryHistory) (also : OpId → OpId → Type 0) where
  -- a step, or another edge
  abbrev pub IsStepWith : OpId → OpId → Type 0
  IsStepWith a b = IsStep h a b ⊎ also a b

  -- the other edges are between operations of the history
  abbrev pub AreOfHistory : Type 0
  AreOfHistory = (a b : OpId) → also a b → IsOp h a × IsOp h b

module _ (h : MemoryHistory) (order : List ℕ) where
  -- the number of a stands at the place k
  abbrev pub StandsAs : ℕ → OpId → Type 0
  StandsAs k a = slice_get order k ≡ Some (number h a)

  -- it stands at a place before i
  abbrev pub IsVisited : ℕ → OpId → Type 0
  IsVisited i a = (k : ℕ) × (k < i) × StandsAs k a

  -- it stands at the place i or after it
  abbrev pub IsAfter : ℕ → OpId → Type 0
  IsAfter i a = (k : ℕ) × (i ≤ k) × StandsAs k a

-- a list of the numbers of all operations, each once, in which each stands after those that step to it
pub record IsOrderWith (h : MemoryHistory) (also : OpId → OpId → Type 0) (order : List ℕ) : Type 0 where
  pub each : (a : OpId) → IsOp h a → (k : ℕ) × StandsAs h order k a
  pub no_other : (k n : ℕ) → slice_get order k ≡ Some n → (a : OpId) × IsOp h a × (number h a ≡ n)
  pub once : (j k n : ℕ) → slice_get order j ≡ Some n → slice_get order k ≡ Some n → j ≡ k
  pub after : (k : ℕ) (a b : OpId) → IsStepWith h also a b → StandsAs h order k b → IsVisited h order k a

-- the same with the edges of a list of pairs of numbers: what the code hands on
abbrev pub IsOrderBy : MemoryHistory → List (ℕ × ℕ) → List ℕ → Type 0
IsOrderBy h edges order = IsOrderWith h (IsListedEdge h edges) order
