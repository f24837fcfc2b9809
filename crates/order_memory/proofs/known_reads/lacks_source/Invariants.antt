use Rattle.std.proofs.Common.{◌≡◌, ℕ, ◌<◌}
use Rattle.std.specs.Prelude.{Some, slice_get}
use Rattle.order_memory.specs.declared.known_reads.KnownRead.{KnownRead}
use Rattle.order_memory.specs.Steps.Indexed.{LacksItsSource}
use Rattle.order_memory.proofs.known_reads.lacks_source.Given as goal

-- none of the reads so far lacks its source
abbrev pub invariant-loop-read : goal.invariant-loop-read
invariant-loop-read l = (i : ℕ) (k : KnownRead) → i < l.read-index → slice_get l.reads i ≡ Some k → ¬ LacksItsSource l.h k
