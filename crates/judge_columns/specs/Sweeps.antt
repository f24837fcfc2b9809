-- What the sweep of a column has found, of the reads that it has seen.
use Rattle.std.specs.Prelude.{◌↔◌, ℕ, Bool, IsTrue}
use Rattle.model_history.specs.declared.op_id.OpId.{OpId}
use Rattle.order_memory.specs.Memory.{MemoryHistory}
use Rattle.judge_columns.specs.LastWrites.{ShowsStart, ShowsRead}
use Rattle.judge_columns.specs.Conflicts.{IsLateTable}

-- start and read say whether a read that shows the pattern was seen, and late has the edges
pub record IsSwept (h : MemoryHistory) (t : ℕ) (ends firsts : ℕ → ℕ) (seen : OpId → Type 0) (start read : Bool) (late : ℕ → ℕ)
    : Type 0 where
  pub starts : IsTrue start ↔ ((r : OpId) × seen r × ShowsStart h t ends r)
  pub reads : IsTrue read ↔ ((r : OpId) × seen r × ShowsRead h t ends firsts r)
  pub edges : IsLateTable h t ends firsts seen late
