-- Known reads of a memory history that come too late for what they returned (Bouajjani, Enea, Guerraoui and Hamza, "On
-- Verifying Causal Consistency", POPL 2017, the table of bad patterns).
use Rattle.std.specs.Prelude.{ℕ}
use Rattle.model_history.specs.declared.op_id.OpId.{OpId}
use Rattle.order_memory.specs.Memory.{MemoryHistory, initial, Writes, Reads}
use Rattle.order_memory.specs.Relations.{ReadsFrom, CO, AreRivalWrites}

module _ (h : MemoryHistory) where
  -- a read of the initial value of a variable comes behind a write of the variable in CO
  abbrev pub HasOverwrittenStart : Type 0
  HasOverwrittenStart = (w r : OpId) × (x v : ℕ) × Writes h w x v × Reads h r x (initial h x) × CO h w r

  -- a write that is read from comes before another write of its variable in CO, and that before the read
  abbrev pub HasOverwrittenRead : Type 0
  HasOverwrittenRead = (a b r : OpId) × ReadsFrom h a r × AreRivalWrites h a b × CO h a b × CO h b r
