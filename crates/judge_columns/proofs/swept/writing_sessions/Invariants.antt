use Rattle.std.specs.Prelude.{◌≡◌, ℕ, ◌<◌, Some, length, slice_get}
use Rattle.model_history.specs.declared.op_id.OpId.{OpId}
use Rattle.model_history.specs.History.{number}
use Rattle.order_memory.specs.Memory.{Writes}
use Rattle.judge_columns.proofs.swept.writing_sessions.Given as goal

abbrev pub invariant-loop-operation : goal.invariant-loop-operation
invariant-loop-operation l = record {
  each : (w : OpId) (x v : ℕ) → Writes l.index.history w x v → number l.index.history w < l.operation
      → (k : ℕ) × (slice_get l.sessions.items k ≡ Some w.session);
  below : (k t : ℕ) → slice_get l.sessions.items k ≡ Some t → t < length l.index.history.1;
}
