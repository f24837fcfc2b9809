-- What the values of a relabelled history stand for.
use Rattle.std.specs.Prelude.{ℕ, List, slice_index_or}
use Rattle.std.proofs.Common.{zero, suc}
use Rattle.order_memory.specs.Memory.{MemoryHistory, initial}
use Rattle.judge_witnesses.specs.Renamed.{Renaming}

-- 0 for the initial value of a variable, and each other number for what the operation before it in number wrote
abbrev pub back : MemoryHistory → List ℕ → Renaming
back h written x zero = initial h x
back h written x (suc n) = slice_index_or written n 0
