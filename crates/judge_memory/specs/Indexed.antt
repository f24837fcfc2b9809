-- The value of an index, and what its type keeps.
use Rattle.std.specs.Prelude.{◌≡◌, ℕ, ◌<◌, ◌≤◌, List, length, Some, slice_get}
use Rattle.order_memory.specs.Memory.{MemoryHistory, IsDifferentiated}
use Rattle.judge_memory.specs.Steps.{many}
use Rattle.judge_memory.specs.declared.part.Part.{Part}
use Rattle.judge_memory.specs.Lists.{ListsEach, ListsStarts, IsSessionOf}
use Rattle.judge_memory.specs.Parts.{IsPart, AreVariables}

-- a history with distinct values, the variable of each of its operations, by number, and a number above all variables
pub record Indexed : Type 0 where
  pub history : MemoryHistory
  pub variables : List ℕ
  pub bound : ℕ

-- the arrays of an index, by session and by the number of an operation
pub record IsIndex (h : MemoryHistory) (starts sessions variables : List ℕ) (parts : List Part) (bound : ℕ) : Type 0 where
  pub distinct : IsDifferentiated h
  pub each_start : ListsStarts h (length h.1) starts
  pub each_session : ListsEach h IsSessionOf (many h) sessions
  pub each_part : ListsEach h (IsPart h) (many h) parts
  pub by_key : AreVariables h variables
  pub count : length variables ≡ many h
  pub below_bound : (n x : ℕ) → slice_get variables n ≡ Some x → x < bound
  pub few : bound ≤ many h
