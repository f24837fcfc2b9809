-- Vectors of counts: for each operation, how many operations of each session are in its past, itself among them (vector
-- clocks: Fidge, "Timestamps in message-passing systems that preserve the partial ordering", 1988).
use Rattle.std.specs.Prelude.{◌≡◌, ◌≢◌, ℕ, ◌+◌, ◌<◌, ◌≤◌, List, [], length, slice_index_or, slice_set}
use Rattle.model_history.specs.declared.op_id.OpId.{OpId}
use Rattle.model_history.specs.History.{HistoryValue, IsOp, session}
use Rattle.order_causal.specs.Orders.{op}

-- for each session, for each of its operations, one list
abbrev pub ByOperation : Type 0 → Type 0
ByOperation A = List (List (List A))

-- the list of an operation
abbrev pub list_of : {A : Type 0} → ByOperation A → OpId → List A
list_of lists o = slice_index_or (slice_index_or lists o.session []) o.index []

-- lists by operation have an entry for o
abbrev pub IsListed : {A : Type 0} → List (List A) → OpId → Type 0
IsListed lists o = o.index < length (slice_index_or lists o.session [])

-- the lists, with x at a place of the list of o
abbrev pub with_item : {A : Type 0} → ByOperation A → OpId → ℕ → A → ByOperation A
with_item lists o place x =
    slice_set lists o.session (slice_set (slice_index_or lists o.session []) o.index (slice_set (list_of lists o) place x))

-- vectors: each list has one count for each session
abbrev pub Counts : Type 0
Counts = ByOperation ℕ

-- how many operations of the session s the vector of o counts
abbrev pub count : Counts → OpId → ℕ → ℕ
count v o s = slice_index_or (list_of v o) s 0

-- the vector of o counts a
abbrev pub IsCounted : Counts → OpId → OpId → Type 0
IsCounted v o a = a.index < count v o a.session

-- the vector of a is at most that of o everywhere
abbrev pub IsWithin : Counts → OpId → OpId → Type 0
IsWithin v o a = (s : ℕ) → count v a s ≤ count v o s

-- the vector of o counts operations of the other session s, and s.i is the last of them
abbrev pub IsLastOf : Counts → OpId → ℕ → ℕ → Type 0
IsLastOf v o s i = (s ≢ o.session) × (count v o s ≡ i + 1)

module _ {S C R : Type 0} where
  -- one list for each operation of the history, and no other
  pub record HasOneEach {A : Type 0} (h : HistoryValue S C R) (lists : ByOperation A) : Type 0 where
    pub sessions : length lists ≡ length h.1
    pub operations : (s : ℕ) → length (slice_index_or lists s []) ≡ length (session h s)

  -- one vector for each operation of the history, with one count for each session
  pub record AreVectorsOf (h : HistoryValue S C R) (v : Counts) : Type 0 where
    pub one_each : HasOneEach h v
    pub counts : (o : OpId) → IsOp h o → length (list_of v o) ≡ length h.1

  -- the vector of an operation counts it as the last of its session, counts no operation that is not there, and counts
  -- all that the operation before it in program order and the last counted ones of the other sessions count; none of
  -- these others counts the operation (this project's profile)
  pub record IsVectorOk (h : HistoryValue S C R) (v : Counts) (o : OpId) : Type 0 where
    pub own : count v o o.session ≡ o.index + 1
    pub existing : (s : ℕ) → count v o s ≤ length (session h s)
    pub predecessor : (i : ℕ) → o.index ≡ i + 1 → IsWithin v o (op o.session i)
    pub others : (s i : ℕ) → IsLastOf v o s i → IsWithin v o (op s i)
    pub uncounted : (s i : ℕ) → IsLastOf v o s i → ¬ IsCounted v (op s i) o

-- there is a list for the operation o
pub record HasListOf {A : Type 0} (lists : ByOperation A) (o : OpId) : Type 0 where
  pub session : o.session < length lists
  pub index : o.index < length (slice_index_or lists o.session [])

-- the vector of o counts only operations that have vectors
abbrev pub CountsHeld : Counts → OpId → Type 0
CountsHeld v o = (s : ℕ) → count v o s ≤ length (slice_index_or v s [])

-- the vector of o counts all that the operation before it in program order counts
abbrev pub IsPastPredecessor : Counts → OpId → Type 0
IsPastPredecessor v o = (i : ℕ) → o.index ≡ i + 1 → IsWithin v o (op o.session i)

-- the vector of o counts all that the last operation that it counts of the session s counts, which doesn't count o
abbrev pub IsPastLastOf : Counts → OpId → ℕ → Type 0
IsPastLastOf v o s = (i : ℕ) → count v o s ≡ i + 1 → IsWithin v o (op s i) × ¬ IsCounted v (op s i) o
