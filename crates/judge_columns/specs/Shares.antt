-- The sessions of a list: those that are swept alone, and those with one write each.
use Rattle.std.specs.Prelude.{◌≡◌, ◌⊎◌, ℕ, ◌<◌, Some, length, slice_get}
use Rattle.order_memory.specs.Memory.{MemoryHistory}
use Rattle.judge_columns.specs.Forks.{AreOnlyWrites, IsForkAt}
use Rattle.judge_columns.specs.declared.shares.Share.{Share}

-- a session stands among those that are swept alone, or its only write among the forks
abbrev pub IsShared : MemoryHistory → Share → ℕ → Type 0
IsShared h share t =
    ((k : ℕ) × (slice_get share.sessions.items k ≡ Some t)) ⊎ ((k : ℕ) × IsForkAt h share.forks.items k t)

-- the sessions are those of the history, and the forks are only writes
pub record IsShare (h : MemoryHistory) (share : Share) : Type 0 where
  pub below : (k t : ℕ) → slice_get share.sessions.items k ≡ Some t → t < length h.1
  pub only : AreOnlyWrites h share.forks.items
