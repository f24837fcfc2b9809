-- Lists of what is before the last operations of sessions.
use Rattle.std.specs.Prelude.{◌≡◌, ℕ, ◌+◌, List, length}
use Rattle.model_history.specs.declared.op_id.OpId.{OpId}
use Rattle.model_history.specs.History.{session}
use Rattle.order_causal.specs.Orders.{op, past, program_past, IsLinearization}
use Rattle.order_causal.specs.Vectors.{Counts}
use Rattle.cert_check.specs.Criteria.{Explains}
use Rattle.cert_check.specs.Witnesses.{counted_before}
use Rattle.order_memory.specs.Memory.{MemoryHistory, memory_answer}

-- a linearization of the past of o, in the order that vectors count, that explains the known returns of its session up to o
pub record IsExplainingList (h : MemoryHistory) (v : Counts) (o : OpId) (ops : List OpId) : Type 0 where
  pub linear : IsLinearization (past (counted_before h v) o) (counted_before h v) ops
  pub explains : Explains memory_answer h ops (program_past o)

-- the last operation of the session s, if it has one, has such a list
abbrev pub IsListedSession : MemoryHistory → Counts → ℕ → Type 0
IsListedSession h v s = (i : ℕ) → length (session h s) ≡ i + 1 → (ops : List OpId) × IsExplainingList h v (op s i) ops
