-- Operations that are placed in an order, one after the other: of each session the first ones.
use Rattle.std.specs.Prelude.{◌≡◌, ◌≢◌, ◌⊎◌, ℕ, ◌+◌, ◌<◌, ◌≤◌, List, length, Some, slice_get, slice_index_or}
use Rattle.model_history.specs.declared.op_id.OpId.{OpId}
use Rattle.model_history.specs.History.{IsOp, many_before, number}
use Rattle.order_memory.specs.Memory.{MemoryHistory}
use Rattle.order_memory.specs.Relations.{ReadsFrom}
use Rattle.judge_memory.specs.Steps.{IsStepWith, IsListedEdge, StandsAs, IsVisited}

-- next gives, of each session, the number of its first operation that is not placed
module _ (h : MemoryHistory) (next : ℕ → ℕ) where
  abbrev pub IsPlaced : OpId → Type 0
  IsPlaced a = number h a < next a.session

  -- p is the first operation of its session that is not placed
  abbrev pub IsNextToPlace : OpId → Type 0
  IsNextToPlace p = IsOp h p × (number h p ≡ next p.session)

  -- the operation with the number n is placed
  abbrev pub IsNumberPlaced : ℕ → Type 0
  IsNumberPlaced n = (a : OpId) → IsOp h a → number h a ≡ n → IsPlaced a

  -- the session t has an operation that is not placed
  abbrev pub IsUnfinished : ℕ → Type 0
  IsUnfinished t = next t < many_before h (t + 1)

-- p waits for an operation that is not placed
abbrev pub IsWaiting : MemoryHistory → (OpId → OpId → Type 0) → (ℕ → ℕ) → OpId → Type 0
IsWaiting h also next p = (a : OpId) × IsStepWith h also a p × ¬ IsPlaced h next a

-- the source of p, and those from which an edge leads to p, are placed
abbrev pub IsReady : MemoryHistory → (OpId → OpId → Type 0) → (ℕ → ℕ) → OpId → Type 0
IsReady h also next p = (a : OpId) → ReadsFrom h a p ⊎ also a p → IsPlaced h next a

-- another operation of the session t is placed
pub record IsPlacedNext (t : ℕ) (next after : ℕ → ℕ) : Type 0 where
  pub here : after t ≡ next t + 1
  pub others : (u : ℕ) → u ≢ t → after u ≡ next u

-- a list of the numbers of the placed operations, each once, in which each stands after those that step to it
pub record IsOrderSoFar (h : MemoryHistory) (also : OpId → OpId → Type 0) (next : ℕ → ℕ) (order : List ℕ) : Type 0 where
  pub each : (a : OpId) → IsPlaced h next a → (k : ℕ) × StandsAs h order k a
  pub no_other : (k n : ℕ) → slice_get order k ≡ Some n → (a : OpId) × IsPlaced h next a × (number h a ≡ n)
  pub once : (j k n : ℕ) → slice_get order j ≡ Some n → slice_get order k ≡ Some n → j ≡ k
  pub after : (k : ℕ) (a b : OpId) → IsStepWith h also a b → StandsAs h order k b → IsVisited h order k a
  pub of_history : (a : OpId) → IsPlaced h next a → IsOp h a

-- an edge leads to a number below n, or to n from an operation that is placed
abbrev pub IsPassed : MemoryHistory → (ℕ → ℕ) → ℕ → ℕ → ℕ → Type 0
IsPassed h next n from to = (to < n) ⊎ ((to ≡ n) × IsNumberPlaced h next from)

-- each edge before the place at does
abbrev pub ArePassed : MemoryHistory → List (ℕ × ℕ) → (ℕ → ℕ) → ℕ → ℕ → Type 0
ArePassed h edges next n at = (j from to : ℕ) → j < at → slice_get edges j ≡ Some (from, to) → IsPassed h next n from to

-- the first number of each session from which on nothing is placed, as a list has it
abbrev pub next_of : List ℕ → ℕ → ℕ
next_of next t = slice_index_or next t 0

-- such a list, and the order so far
pub record IsPlacement (h : MemoryHistory) (edges : List (ℕ × ℕ)) (next order : List ℕ) : Type 0 where
  pub count : length next ≡ length h.1
  pub from_start : (t : ℕ) → t < length h.1 → many_before h t ≤ next_of next t
  pub to_end : (t : ℕ) → t < length h.1 → next_of next t ≤ many_before h (t + 1)
  pub so_far : IsOrderSoFar h (IsListedEdge h edges) (next_of next) order

-- what is placed stays so, and where the order is no longer than it was, nothing more is placed
pub record IsGrownFrom (next order after more : List ℕ) : Type 0 where
  pub rises : (t : ℕ) → next_of next t ≤ next_of after t
  pub longer : length order ≤ length more
  pub same : length order ≡ length more → next ≡ after
