-- What the happened-before relations of a memory history may show (Bouajjani, Enea, Guerraoui and Hamza, "On Verifying Causal
-- Consistency", POPL 2017, the table of bad patterns).
use Rattle.std.specs.Prelude.{ℕ, IsTrue}
use Rattle.model_history.specs.declared.op_id.OpId.{OpId}
use Rattle.order_memory.specs.Memory.{MemoryHistory, initial, Writes, Reads}
use Rattle.order_causal.specs.Orders.{program_past}
use Rattle.order_memory.specs.Relations.{HB}

module _ (h : MemoryHistory) where
  -- in HB of some operation an operation is before itself
  abbrev pub HasHBCycle : Type 0
  HasHBCycle = (o a : OpId) × HB h o a a

  -- in HB of some operation a write comes before a read of the initial value of its variable, which is the operation or
  -- before it in program order
  abbrev pub HasStartOverwrittenInHB : Type 0
  HasStartOverwrittenInHB =
      (o w r : OpId) × (x v : ℕ) × Writes h w x v × Reads h r x (initial h x) × IsTrue (program_past o r) × HB h o w r
