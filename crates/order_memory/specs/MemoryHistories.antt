-- What a history of a memory may be.
use Rattle.model_objects.specs.Register.{matches}
use Rattle.model_objects.specs.Table.{IsTable}
use Rattle.model_history.specs.History.{IsHistory}
use Rattle.order_memory.specs.Memory.{MemoryHistory}

-- its start is a table of the initial values that are not 0; it has at most 16 sessions of at most 256 operations, and
-- their known returns come first, each fitting its call
abbrev pub IsMemoryHistory : MemoryHistory → Type 0
IsMemoryHistory h = IsHistory (IsTable 0 (λ _. Unit {0})) (λ c. matches c.call) h
