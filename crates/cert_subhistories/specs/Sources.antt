-- Parts of memory histories that keep what their reads read from.
use Rattle.std.specs.Prelude.{Bool, IsTrue}
use Rattle.model_history.specs.declared.op_id.OpId.{OpId}
use Rattle.order_memory.specs.Memory.{MemoryCall, MemoryHistory}
use Rattle.order_memory.specs.Relations.{ReadsFrom}
use Rattle.cert_subhistories.specs.Parts.{kept_of}

-- with each known read the write that it reads from is kept; a read of the initial value needs none
abbrev pub KeepsSources : (OpId → MemoryCall → Bool) → MemoryHistory → Type 0
KeepsSources kept h = (w r : OpId) → ReadsFrom h w r → IsTrue (kept_of kept h r) → IsTrue (kept_of kept h w)
