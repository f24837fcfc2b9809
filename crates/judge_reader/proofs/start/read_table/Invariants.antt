use Rattle.std.proofs.Common.{length}
use Rattle.judge_reader.proofs.TableRead.{IsReadingTable}
use Rattle.judge_reader.proofs.start.read_table.Given as goal

abbrev pub invariant-entries : goal.invariant-entries
invariant-entries l = IsReadingTable l.depth l.initial.reader l.reader l.table l.before

abbrev pub decreases-entries : goal.decreases-entries
decreases-entries l = length l.reader
