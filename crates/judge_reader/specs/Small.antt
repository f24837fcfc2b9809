-- The long histories that fit the limits of `History`.
use Rattle.std.specs.Prelude.{ℕ, ◌≤◌, length}
use Rattle.model_history.specs.History.{session}
use Rattle.model_history.specs.declared.limits.TheConstants.{MAX_OPERATIONS, MAX_SESSIONS}
use Rattle.order_memory.specs.Memory.{MemoryHistory}
use Rattle.model_objects.specs.declared.table.TheConstants.{MAX_ENTRIES}

-- few sessions, none of them long, and few initial values
pub record IsSmall (h : MemoryHistory) : Type 0 where
  pub few_sessions : length h.1 ≤ MAX_SESSIONS
  pub few_operations : (s : ℕ) → length (session h s) ≤ MAX_OPERATIONS
  pub few_values : length h.0 ≤ MAX_ENTRIES
