-- What decides whether a session can go on, while an order is made from its end: for each operation how many reads of it are left,
-- for each variable how many writes of it are left and which of them is locked; by the numbers of operations and of variables.
use Rattle.std.specs.Prelude.{◌≡◌, ◌≢◌, ℕ, ◌-◌, List, Option, Some, length, min, slice_index_or}
use Rattle.model_history.specs.declared.op_id.OpId.{OpId}
use Rattle.model_history.specs.History.{IsOp, many_before, number}
use Rattle.order_causal.specs.Orders.{op}
use Rattle.order_memory.specs.CountSums.{sum_below}
use Rattle.order_memory.specs.Memory.{MemoryHistory, Writes}
use Rattle.order_memory.specs.Relations.{ReadsFrom}
use Rattle.judge_session_orders.specs.Backward.{IsLocked}

-- how many operations of each session are left, by the numbers after the last ones that are
abbrev pub left_counts : MemoryHistory → List ℕ → ℕ → ℕ
left_counts h ends t = slice_index_or ends t 0 - many_before h t

-- how many of those with numbers below n
abbrev pub left_under : MemoryHistory → List ℕ → ℕ → ℕ → ℕ
left_under h ends n t = min (slice_index_or ends t 0) n - many_before h t

-- the sum of what item gives for each operation that is left of the first k sessions
abbrev pub left_sum : ℕ → (OpId → ℕ) → (ℕ → ℕ) → ℕ
left_sum k item left = sum_below (λ s. sum_below (λ i. item (op s i)) (left s)) k

-- item is 1 for the operations that have a property, and 0 for the others
pub record IsTest (has : OpId → Type 0) (item : OpId → ℕ) : Type 0 where
  pub one : (a : OpId) → has a → item a ≡ 1
  pub only : (a : OpId) → item a ≢ 0 → has a

-- so many operations that have a property are left of the first k sessions
abbrev pub CountsLeft : ℕ → (ℕ → ℕ) → (OpId → Type 0) → ℕ → Type 0
CountsLeft k left has n = (item : OpId → ℕ) → IsTest has item → n ≡ left_sum k item left

module _ (h : MemoryHistory) (variables : List ℕ) where
  -- the number of the variable of a write or known read
  abbrev pub variable : OpId → ℕ
  variable a = slice_index_or variables (number h a) 0

  -- a writes the variable of the number x
  abbrev pub WritesNumber : ℕ → OpId → Type 0
  WritesNumber x a = ((y v : ℕ) × Writes h a y v) × (variable a ≡ x)

  -- how many reads of each operation are left, and how many writes of each variable
  pub record AreCounts (left : ℕ → ℕ) (readers writes : ℕ → ℕ) : Type 0 where
    pub reads_left : (w : OpId) → IsOp h w → CountsLeft (length h.1) left (ReadsFrom h w) (readers (number h w))
    pub writes_left : (x : ℕ) → CountsLeft (length h.1) left (WritesNumber x) (writes x)

  -- of each variable the write that is locked
  pub record AreLocks (o : OpId) (left : ℕ → ℕ) (lock : ℕ → Option ℕ) : Type 0 where
    pub locked : (x n : ℕ) → lock x ≡ Some n → (w : OpId) × (number h w ≡ n) × IsLocked h o left w × (variable w ≡ x)
    pub known : (w : OpId) → IsLocked h o left w → lock (variable w) ≡ Some (number h w)

-- a writes nothing, and read from no write
abbrev pub IsUnsourced : MemoryHistory → OpId → Type 0
IsUnsourced h a = ((x v : ℕ) → ¬ Writes h a x v) × ((w : OpId) → ¬ ReadsFrom h w a)
