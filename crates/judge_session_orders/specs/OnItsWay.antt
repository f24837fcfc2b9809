-- The order of a session, on its way.
use Rattle.std.specs.Prelude.{◌≡◌, ◌≢◌, ℕ, ◌<◌, ◌≤◌, ◌⊎◌, List, Option, Some, None, length, slice_get, slice_index_or}
use Rattle.model_history.specs.declared.op_id.OpId.{OpId}
use Rattle.model_history.specs.History.{IsOp, number, session}
use Rattle.order_memory.specs.Memory.{MemoryHistory, IsDifferentiated}
use Rattle.order_memory.specs.Relations.{ReadsFrom}
use Rattle.order_memory.specs.SourceOrder.{IsCyclic}
use Rattle.judge_memory.specs.Steps.{many}
use Rattle.judge_memory.specs.declared.limits.TheConstants.{MAX_NUMBERS}
use Rattle.judge_memory.specs.Indexed.{Indexed}
use Rattle.judge_memory.specs.Parts.{AreVariables, IsPart}
use Rattle.judge_memory.specs.declared.part.Part.{Part}
use Rattle.judge_session_orders.specs.declared.backward.Backward.{Backward}
use Rattle.judge_session_orders.specs.Backward.{HasReadLeft, IsOpen, IsBlocked, IsLockedOut, ReadsLockedOut, AreOthersBlocked, IsPlacing, last_left}
use Rattle.judge_session_orders.specs.SessionOrders.{last_op}
use Rattle.judge_session_orders.specs.SessionStates.{IsSessionState}
use Rattle.judge_session_orders.specs.Tables.{AreCounts, AreLocks, left_counts, left_sum}

-- how many operations of each session are left
abbrev pub left_of : MemoryHistory → Backward → ℕ → ℕ
left_of h b = left_counts h b.ends.items

-- how many operations are left
abbrev pub many_left : MemoryHistory → Backward → ℕ
many_left h b = left_sum (length h.1) (λ a. 1) (left_of h b)

-- what holds of the history and of the last operation of a session while its order is made
pub record IsKnown (index : Indexed) (own : ℕ) : Type 0 where
  pub straight : ¬ IsCyclic index.history
  pub distinct : IsDifferentiated index.history
  pub variables : AreVariables index.history index.variables
  pub few : many index.history ≤ MAX_NUMBERS
  pub exists : own < length index.history.1
  pub operation : IsOp index.history (last_op index.history own)

-- an entry for each session, operation and variable
pub record HasSizes (index : Indexed) (b : Backward) : Type 0 where
  pub ends : length b.ends.items ≡ length index.history.1
  pub readers : length b.readers.items ≡ many index.history
  pub writes : length b.writes.items ≡ index.bound
  pub locks : length b.locks.items ≡ index.bound

-- the reads and writes that are left, as left says, are counted
abbrev pub HasCounts : Indexed → (ℕ → ℕ) → Backward → Type 0
HasCounts index left b = AreCounts index.history index.variables left (λ n. slice_index_or b.readers.items n 0)
    (λ x. slice_index_or b.writes.items x 0)

-- no count is above m
pub record CountsUpTo (m : ℕ) (b : Backward) : Type 0 where
  pub readers : (n : ℕ) → slice_index_or b.readers.items n 0 ≤ m
  pub writes : (x : ℕ) → slice_index_or b.writes.items x 0 ≤ m

-- nothing is left, counted or locked
pub record IsClear (index : Indexed) (b : Backward) : Type 0 where
  pub few : many index.history ≤ MAX_NUMBERS
  pub sizes : HasSizes index b
  pub none : (t : ℕ) → ¬ IsOpen (left_of index.history b) t
  pub zero : CountsUpTo 0 b
  pub unlocked : (x : ℕ) → slice_index_or b.locks.items x None ≡ None

-- what is placed is in such a list as a state has, and what is left is counted and locked
pub record IsOnItsWay (index : Indexed) (b : Backward) : Type 0 where
  pub known : IsKnown index b.own
  pub sizes : HasSizes index b
  pub ops : List OpId
  pub state : IsSessionState index.history (last_op index.history b.own) (left_of index.history b) ops b.start
  pub counts : HasCounts index (left_of index.history b) b
  pub locks : AreLocks index.history index.variables (last_op index.history b.own) (left_of index.history b)
      (λ x. slice_index_or b.locks.items x None)

-- the session t cannot go on
abbrev pub IsStopped : Indexed → Backward → ℕ → Type 0
IsStopped index b t = IsBlocked index.history (last_op index.history b.own) (left_of index.history b) t

-- it can
abbrev pub IsFree : Indexed → Backward → ℕ → Type 0
IsFree index b t = IsOpen (left_of index.history b) t × ¬ IsStopped index b t

-- a write that is locked stands in the way of the operation a of the session t
abbrev pub IsShutOut : Indexed → Backward → ℕ → OpId → Type 0
IsShutOut index b t a =
    IsLockedOut index.history (last_op index.history b.own) (left_of index.history b) a
    ⊎ ((t ≡ b.own) × ReadsLockedOut index.history (last_op index.history b.own) (left_of index.history b) a)

-- the last operation of the session t that is left is the next to be placed
pub record CanBePlaced (index : Indexed) (b : Backward) (t : ℕ) : Type 0 where
  pub on_its_way : IsOnItsWay index b
  pub exists : t < length index.history.1
  pub free : IsFree index b t
  pub turn : t ≡ b.own → AreOthersBlocked index.history (last_op index.history b.own) (left_of index.history b)

-- it has the number n, and what is known of it is p
pub record IsNextPart (index : Indexed) (b : Backward) (t n : ℕ) (p : Part) : Type 0 where
  pub number_of : number index.history (last_left (left_of index.history b) t) ≡ n
  pub part : IsPart index.history (last_left (left_of index.history b) t) p

-- and has been placed
pub record IsPlaced (index : Indexed) (b after : Backward) (t : ℕ) : Type 0 where
  pub on_its_way : IsOnItsWay index after
  pub own : after.own ≡ b.own
  pub placing : IsPlacing t (left_of index.history b) (left_of index.history after)

-- of the sessions at the places from i to n of a list no open one can go on, but for the session itself
abbrev pub AreStopped : Indexed → Backward → List ℕ → ℕ → ℕ → Type 0
AreStopped index b sessions i n =
    (j : ℕ) → i ≤ j → j < n → slice_index_or sessions j 0 ≢ b.own → IsOpen (left_of index.history b) (slice_index_or sessions j 0)
    → IsStopped index b (slice_index_or sessions j 0)

-- each other session that can go on is on a list: on it is each open one but for those whose last operation has a read left
pub record IsAwake (index : Indexed) (b : Backward) (awake : List ℕ) : Type 0 where
  pub below : (k t : ℕ) → slice_get awake k ≡ Some t → t < length index.history.1
  pub each : (t : ℕ) → t ≢ b.own → IsOpen (left_of index.history b) t → ((k : ℕ) × (slice_get awake k ≡ Some t))
      ⊎ HasReadLeft index.history (left_of index.history b) (last_left (left_of index.history b) t)

-- where the source of p is the last operation left of its session, a read of it is left, or its session is hinted
abbrev pub IsFreed : Indexed → OpId → Backward → Option ℕ → Type 0
IsFreed index p after hint = (w : OpId) → ReadsFrom index.history w p → IsOpen (left_of index.history after) w.session
    → w ≡ last_left (left_of index.history after) w.session → HasReadLeft index.history (left_of index.history after) w ⊎ (hint ≡ Some w.session)

-- the list has the sessions below m that have operations
pub record ListsSessions (h : MemoryHistory) (m : ℕ) (sessions : List ℕ) : Type 0 where
  pub below : (i t : ℕ) → slice_get sessions i ≡ Some t → (t < length h.1) × (0 < length (session h t))
  pub each : (t : ℕ) → t < m → 0 < length (session h t) → (i : ℕ) × (slice_get sessions i ≡ Some t)
