-- Reads of values that nobody wrote, among the first operations.
use Rattle.std.specs.Prelude.{ℕ, ◌<◌}
use Rattle.model_history.specs.declared.op_id.OpId.{OpId}
use Rattle.model_history.specs.History.{IsOp, number}
use Rattle.order_memory.specs.Memory.{MemoryHistory}
use Rattle.judge_memory.specs.Parts.{IsThinAir}

-- no operation with a number below n is one
abbrev pub AreSourcedBelow : MemoryHistory → ℕ → Type 0
AreSourcedBelow h n = (o : OpId) → IsOp h o → number h o < n → ¬ IsThinAir h o
