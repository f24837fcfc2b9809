-- Sessions with one write each: what reads show of these writes.
use Rattle.std.specs.Prelude.{◌≡◌, ◌↔◌, ℕ, ◌+◌, ◌<◌, ◌≤◌, Bool, IsTrue, List, Some, length, slice_get, slice_index_or}
use Rattle.model_history.specs.declared.op_id.OpId.{OpId}
use Rattle.model_history.specs.History.{IsOp, number}
use Rattle.order_memory.specs.Memory.{MemoryHistory, initial, Writes, Reads}
use Rattle.order_memory.specs.Relations.{ReadsFrom, CO, IsPast}
use Rattle.judge_memory.specs.Steps.{many}
use Rattle.judge_memory.specs.Indexed.{Indexed}
use Rattle.judge_columns.specs.LastWrites.{WritesTo}
use Rattle.judge_columns.specs.Sights.{IsSeen}
use Rattle.judge_columns.specs.Words.{AreFutureWords, ArePastWords, AreVariableWords, HasBit, HasBitAt, IsMarked}
use Rattle.judge_columns.specs.declared.forks.ForkWords.{ForkWords}

module _ (h : MemoryHistory) where
  -- w is the only write of its session
  abbrev pub IsOnlyWrite : OpId → Type 0
  IsOnlyWrite w = ((x v : ℕ) × Writes h w x v) × ((b : OpId) (x v : ℕ) → b.session ≡ w.session → Writes h b x v → b ≡ w)

  -- a list has the numbers of such writes
  abbrev pub AreOnlyWrites : List ℕ → Type 0
  AreOnlyWrites writes = (k n : ℕ) → slice_get writes k ≡ Some n → (w : OpId) × IsOp h w × (number h w ≡ n) × IsOnlyWrite w

  -- the write at the place k of a list is of the session t
  abbrev pub IsForkAt : List ℕ → ℕ → ℕ → Type 0
  IsForkAt writes k t = (w : OpId) × IsOp h w × (slice_get writes k ≡ Some (number h w)) × (w.session ≡ t)

  -- one of the first m is
  abbrev pub IsForkBelow : List ℕ → ℕ → ℕ → Type 0
  IsForkBelow writes m t = (k : ℕ) × (k < m) × IsForkAt writes k t

module _ (h : MemoryHistory) (is : OpId → Type 0) where
  -- r reads the initial value of a variable that such a write in its past wrote
  abbrev pub ShowsStartOf : OpId → Type 0
  ShowsStartOf r = (w : OpId) × (x : ℕ) × is w × WritesTo h x w × Reads h r x (initial h x) × CO h w r

  -- r reads from a write before such a write of the variable, which is in the past of r
  abbrev pub ShowsReadOf : OpId → Type 0
  ShowsReadOf r = (s w : OpId) × is w × (from : ReadsFrom h s r) × WritesTo h from.0 w × CO h s w × CO h w r

  -- r reads from s, in whose past such a write of the variable is not, which is in the past of r
  abbrev pub LeavesOf : OpId → OpId → Type 0
  LeavesOf r s = (w : OpId) × is w × (from : ReadsFrom h s r) × WritesTo h from.0 w × CO h w r × (¬ IsPast h s w)

-- what reads with numbers below n show of the writes that have a bit: start and read say whether one shows a pattern, and the words of
-- late have, for each write s, the bits of those that a read of s leaves
pub record AreForksFound (h : MemoryHistory) (writes : List ℕ) (from n : ℕ) (start read : Bool) (late : List ℕ) : Type 0 where
  pub starts : IsTrue start ↔ ((r : OpId) × IsSeen h n r × ((k : ℕ) × (k < 128) × ShowsStartOf h (IsMarked h writes from k) r))
  pub reads : IsTrue read ↔ ((r : OpId) × IsSeen h n r × ((k : ℕ) × (k < 128) × ShowsReadOf h (IsMarked h writes from k) r))
  pub left : (s : OpId) (k : ℕ) → IsOp h s → k < 128
      → HasBitAt late (number h s) k ↔ ((r : OpId) × IsSeen h n r × LeavesOf h (IsMarked h writes from k) r s)

-- the words are those of the writes
pub record AreForkWords (index : Indexed) (writes : List ℕ) (from : ℕ) (words : ForkWords) : Type 0 where
  pub past_size : length words.past.items ≡ many index.history
  pub future_size : length words.future.items ≡ many index.history
  pub variable_size : length words.of_variable.items ≡ index.bound
  pub past : ArePastWords index.history writes from words.past.items
  pub future : AreFutureWords index.history writes from words.future.items
  pub of_variable : AreVariableWords index.history writes from index.variables words.of_variable.items

-- an edge goes to the operation b from the write a whose bit b has
abbrev pub IsLeftIn : List ℕ → ℕ → ℕ → ℕ → Type 0
IsLeftIn writes from word a = (k : ℕ) × (k < 128) × (slice_get writes (from + k) ≡ Some a) × HasBit word k

abbrev pub IsLeftEdge : List ℕ → ℕ → List ℕ → ℕ → ℕ → Type 0
IsLeftEdge writes from late a b = IsLeftIn writes from (slice_index_or late b 0) a

-- no operation with a number from one up to another writes
abbrev pub AreNoWrites : MemoryHistory → ℕ → ℕ → Type 0
AreNoWrites h from end = (b : OpId) (x v : ℕ) → Writes h b x v → from ≤ number h b → number h b < end → ⊥

-- n is the number of the first one that does
pub record IsFirstWrite (h : MemoryHistory) (from end n : ℕ) : Type 0 where
  pub first : from ≤ n
  pub below : n < end
  pub write : (w : OpId) × (number h w ≡ n) × ((x v : ℕ) × Writes h w x v)
  pub none : AreNoWrites h from n

-- an entry for each operation, and for each variable
pub record HasForkSizes (index : Indexed) (words : ForkWords) : Type 0 where
  pub past : length words.past.items ≡ many index.history
  pub future : length words.future.items ≡ many index.history
  pub of_variable : length words.of_variable.items ≡ index.bound
