-- Some of a list: places, and groups of a size, of which the g-th has the places from g times the size on.
use Rattle.std.specs.Prelude.{◌≡◌, ℕ, ◌+◌, ◌*◌, ◌<◌, List, Some, slice_get, slice_index_or, IfOk, Result}
use Rattle.judge_workers.specs.Numbers.{HasNumber}
use Rattle.order_memory.specs.Memory.{MemoryHistory}
use Rattle.judge_columns.specs.Forks.{IsForkAt}
use Rattle.judge_columns.specs.Parts.{IsSweptOver}
use Rattle.judge_columns.specs.declared.some.SweptSome.{SweptSome}
use Rattle.judge_columns.specs.declared.parts.Claimed.{Claimed}
use Rattle.judge_columns.specs.declared.shares.Share.{Share}

-- t is at one of the first i places from a place on
abbrev pub IsFrom : (ℕ → ℕ → Type 0) → (from i t : ℕ) → Type 0
IsFrom at from i t = (k : ℕ) × (k < i) × at (from + k) t

-- t is at a place of one of these groups
abbrev pub IsInGroups : (size : ℕ) → (ℕ → ℕ → Type 0) → List ℕ → ℕ → Type 0
IsInGroups size at groups t = (g : ℕ) × HasNumber groups g × IsFrom at (g * size) size t

-- t is at one of these places of a list
abbrev pub IsAmong : List ℕ → List ℕ → ℕ → Type 0
IsAmong sessions places t = (k : ℕ) × HasNumber places k × (slice_get sessions k ≡ Some t)

-- what some sessions of a list show, by their places
abbrev pub IsSweptSessions : MemoryHistory → List ℕ → SweptSome → Type 0
IsSweptSessions h sessions found = IsSweptOver h (IsAmong sessions found.numbers.items) found.swept

-- what groups of 128 sessions with one write each show
abbrev pub IsSweptForks : MemoryHistory → List ℕ → SweptSome → Type 0
IsSweptForks h writes found = IsSweptOver h (IsInGroups 128 (IsForkAt h writes) found.numbers.items) found.swept

-- what was claimed of both kinds is swept
abbrev pub IsClaimed : MemoryHistory → Share → Claimed → Type 0
IsClaimed h share claimed = IsSweptSessions h share.sessions.items claimed.sessions × IsSweptForks h share.forks.items claimed.forks

-- each of n results, if it is no error, is that
abbrev pub AreClaimed : {E : Type 0} → MemoryHistory → Share → (n : ℕ) → List (Result Claimed E) → Type 0
AreClaimed h share n results = (i : ℕ) (d : Result Claimed _) → i < n → IfOk (slice_index_or results i d) (IsClaimed h share)
