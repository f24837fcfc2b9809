-- The columns of four sessions side by side: a row for each operation, with a number for each session.
use Rattle.std.specs.Prelude.{◌≡◌, ℕ, ◌<◌, List, [], length, slice_index_or}
use Rattle.order_memory.specs.Memory.{MemoryHistory}
use Rattle.judge_memory.specs.Steps.{many}
use Rattle.judge_memory.specs.Indexed.{Indexed}
use Rattle.judge_columns.specs.Columns.{AreFirsts, ArePastEnds, AreWithinSession}
use Rattle.judge_columns.specs.declared.lanes.Lanes.{Lanes}
use Rattle.judge_columns.specs.declared.swept.Arrays.{Arrays}

-- the number in the lane k of a row
abbrev pub in_lane : List ℕ → ℕ → ℕ
in_lane row k = slice_index_or row k 0

-- the column in the lane k of the rows
abbrev pub lane_of : List (List ℕ) → ℕ → ℕ → ℕ
lane_of rows k n = in_lane (slice_index_or rows n []) k

module _ (h : MemoryHistory) where
  -- a row for each operation
  pub record HasRows (lanes : Lanes) : Type 0 where
    pub ends : length lanes.ends.items ≡ many h
    pub firsts : length lanes.firsts.items ≡ many h

  -- the lane k has the column of the session t
  pub record IsLane (lanes : Lanes) (k t : ℕ) : Type 0 where
    pub ends : ArePastEnds h t (lane_of lanes.ends.items k)
    pub within : AreWithinSession h t (lane_of lanes.ends.items k)
    pub firsts : AreFirsts h t (lane_of lanes.firsts.items k)

  -- each lane has the column of its session
  abbrev pub AreLanes : Lanes → List ℕ → Type 0
  AreLanes lanes sessions = (k : ℕ) → k < 4 → IsLane lanes k (in_lane sessions k)

-- no number of a late write is left in the table
abbrev pub IsClear : List ℕ → Type 0
IsClear late = (n : ℕ) → slice_index_or late n 0 ≡ 0

-- a number for each operation in three arrays, and one for each variable in the other; the table of late writes is clear
pub record HasNumbers (index : Indexed) (arrays : Arrays) : Type 0 where
  pub ends : length arrays.ends.items ≡ many index.history
  pub firsts : length arrays.firsts.items ≡ many index.history
  pub last : length arrays.last.items ≡ index.bound
  pub late : length arrays.late.items ≡ many index.history
  pub clear : IsClear arrays.late.items
