-- Sessions with operations that are not placed, and how far each has gone through the edges.
use Rattle.std.specs.Prelude.{◌≡◌, ℕ, ◌<◌, List, length, Some, slice_get}
use Rattle.model_history.specs.declared.op_id.OpId.{OpId}
use Rattle.order_memory.specs.Memory.{MemoryHistory}
use Rattle.judge_memory.specs.Steps.{IsListedEdge}
use Rattle.judge_memory.specs.declared.rounds.Unfinished.{Unfinished}
use Rattle.judge_memory.specs.Placements.{ArePassed, IsNextToPlace, IsUnfinished, IsWaiting}

-- the session t is listed
abbrev pub IsListed : List Unfinished → ℕ → Type 0
IsListed sessions t = (j : ℕ) × (u : Unfinished) × (slice_get sessions j ≡ Some u) × (u.session ≡ t)

module _ (h : MemoryHistory) (edges : List (ℕ × ℕ)) (next : ℕ → ℕ) where
  -- it is a session of the history, and has gone through edges to its next operation alone
  pub record IsGoneThrough (u : Unfinished) : Type 0 where
    pub session : u.session < length h.1
    pub passed : ArePassed h edges next (next u.session) u.passed

  -- the next operation of the session t waits for one that is not placed
  abbrev pub IsStuck : ℕ → Type 0
  IsStuck t = (p : OpId) × IsNextToPlace h next p × (p.session ≡ t) × IsWaiting h (IsListedEdge h edges) next p

  -- each session with an operation that is not placed is listed
  pub record AreUnfinished (sessions : List Unfinished) : Type 0 where
    pub right : (j : ℕ) (u : Unfinished) → slice_get sessions j ≡ Some u → IsGoneThrough u
    pub each : (t : ℕ) → t < length h.1 → IsUnfinished h next t → IsListed sessions t

  -- the next operations of the listed sessions wait
  abbrev pub AreStuck : List Unfinished → Type 0
  AreStuck sessions = (j : ℕ) (u : Unfinished) → slice_get sessions j ≡ Some u → IsStuck u.session
