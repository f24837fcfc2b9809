-- The sources of all operations of a memory history.
use Rattle.std.specs.Prelude.{◌≡◌, ℕ, ◌<◌, [], length, slice_index_or}
use Rattle.model_history.specs.History.{session}
use Rattle.order_memory.specs.Memory.{MemoryHistory}
use Rattle.order_memory.specs.SourceOrder.{ListsSourcesBelow}
use Rattle.order_memory.specs.Sources.{Sources}

-- the source of each operation, or none
pub record ListsSources (h : MemoryHistory) (sources : Sources) : Type 0 where
  pub sessions : length sources ≡ length h.1
  pub each : (s : ℕ) → s < length h.1 → ListsSourcesBelow h s (length (session h s)) (slice_index_or sources s [])
