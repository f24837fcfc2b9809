use Rattle.std.proofs.Common.{length}
use Rattle.judge_reader.proofs.OperationsRead.{IsReadingSession}
use Rattle.judge_reader.proofs.session.read_operations.Given as goal

abbrev pub invariant-operations : goal.invariant-operations
invariant-operations l = IsReadingSession l.depth l.s l.initial.entries.items l.initial.reader l.reader l.entries.items l.unknown_seen

abbrev pub decreases-operations : goal.decreases-operations
decreases-operations l = length l.reader
