-- What the orders of all sessions begin with: the counts of a whole history, of which those that are not in a past are taken out.
use Rattle.std.specs.Prelude.{◌≡◌, ℕ, ◌+◌, ◌<◌, ◌≤◌, List, length, max, slice_index_or}
use Rattle.model_history.specs.History.{many_before}
use Rattle.order_memory.specs.Memory.{MemoryHistory}
use Rattle.judge_memory.specs.Indexed.{Indexed}
use Rattle.judge_session_orders.specs.declared.backward.Backward.{Backward}
use Rattle.judge_session_orders.specs.declared.beginning.Beginning.{Beginning}
use Rattle.judge_session_orders.specs.OnItsWay.{HasCounts, HasSizes, left_of}
use Rattle.judge_session_orders.specs.Pasts.{AreReadEdges}

-- every operation is left and counted
pub record IsWhole (index : Indexed) (b : Backward) : Type 0 where
  pub sizes : HasSizes index b
  pub ends : (t : ℕ) → t < length index.history.1 → slice_index_or b.ends.items t 0 ≡ many_before index.history (t + 1)
  pub counts : HasCounts index (left_of index.history b) b

-- every operation is left and counted, there is a number for each session, and the edges are those of the reads of an order
pub record IsBeginning (index : Indexed) (order : List ℕ) (b : Beginning) : Type 0 where
  pub whole : IsWhole index b.whole
  pub pasts : length b.pasts.items ≡ length index.history.1
  pub edges : AreReadEdges index.history order (length order) b.edges.items

-- there is a number for each session, and none is above the number after that of its last operation
pub record AreEndsWithin (h : MemoryHistory) (pasts : List ℕ) : Type 0 where
  pub size : length pasts ≡ length h.1
  pub within : (t : ℕ) → slice_index_or pasts t 0 ≤ many_before h (t + 1)

-- of each session below m, what is before such a number is left
abbrev pub IsLeftOnly : MemoryHistory → ℕ → List ℕ → List ℕ → Type 0
IsLeftOnly h m pasts ends = (t : ℕ) → t < m → slice_index_or ends t 0 ≡ max (slice_index_or pasts t 0) (many_before h t)
