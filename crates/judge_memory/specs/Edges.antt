-- Edges as a list of pairs of numbers, each from an operation and to one that has to follow it.
use Rattle.std.specs.Prelude.{◌≡◌, ℕ, ◌<◌, ◌≤◌, List, Some, slice_get}
use Rattle.order_memory.specs.Memory.{MemoryHistory}
use Rattle.judge_memory.specs.Steps.{many}

-- they are sorted by where they lead
abbrev pub AreSortedEdges : List (ℕ × ℕ) → Type 0
AreSortedEdges edges = (i j a b c d : ℕ) → i ≤ j → slice_get edges i ≡ Some (a, b) → slice_get edges j ≡ Some (c, d) → b ≤ d

-- each is from an operation of the history
abbrev pub AreFromOperations : MemoryHistory → List (ℕ × ℕ) → Type 0
AreFromOperations h edges = (j from to : ℕ) → slice_get edges j ≡ Some (from, to) → from < many h
