use Rattle.std.proofs.Common.{◌≡◌, ℕ, ◌<◌}
use Rattle.std.specs.Prelude.{Some, slice_get}
use Rattle.model_history.specs.declared.op_id.OpId.{OpId}
use Rattle.order_memory.specs.declared.known_reads.KnownRead.{KnownRead}
use Rattle.pattern_search.specs.Steps.Routes.{IsWriteBefore}
use Rattle.pattern_search.proofs.search.reads.overwritten_start.Given as goal

-- no write is found for the reads so far
abbrev pub invariant-loop-read : goal.invariant-loop-read
invariant-loop-read l = (i : ℕ) (k : KnownRead) (w : OpId) → i < l.read-index → slice_get l.reads i ≡ Some k → ¬ IsWriteBefore l.order k w
