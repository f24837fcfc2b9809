-- Vectors of the happened-before relation of an operation.
use Rattle.std.specs.Prelude.{◌↔◌}
use Rattle.model_history.specs.declared.op_id.OpId.{OpId}
use Rattle.order_memory.specs.Memory.{MemoryHistory}
use Rattle.order_memory.specs.Relations.{IsPast, HB}
use Rattle.order_memory.specs.Steps.GrowingOrders.{AreHeldVectors}
use Rattle.order_causal.specs.Vectors.{Counts, IsCounted}

-- the vectors count, of each operation of the past of o, what is before it in the happened-before relation of o
pub record IsHBVectors (h : MemoryHistory) (o : OpId) (now : Counts) : Type 0 where
  pub held : AreHeldVectors h now
  pub exact : (a b : OpId) → IsPast h o b → IsCounted now b a ↔ HB h o a b
