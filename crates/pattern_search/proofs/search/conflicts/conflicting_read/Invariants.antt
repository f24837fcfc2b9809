use Rattle.std.proofs.Common.{◌≡◌, ℕ, ◌<◌}
use Rattle.std.specs.Prelude.{Some, slice_get}
use Rattle.order_memory.specs.declared.known_reads.KnownRead.{KnownRead}
use Rattle.pattern_search.specs.Steps.Conflicts.{IsLastConflict}
use Rattle.pattern_search.proofs.search.conflicts.conflicting_read.Given as goal

-- by none of the reads so far are the writes in conflict
abbrev pub invariant-loop-read : goal.invariant-loop-read
invariant-loop-read l = (i : ℕ) (k : KnownRead) → i < l.read-index → slice_get l.read-items i ≡ Some k → ¬ IsLastConflict l.order l.write l.rival k
