use Rattle.std.proofs.Common.{length}
use Rattle.judge_reader.proofs.SessionsRead.{IsReadingRows}
use Rattle.judge_reader.proofs.sessions.read_sessions.Given as goal

abbrev pub invariant-sessions : goal.invariant-sessions
invariant-sessions l = IsReadingRows l.depth l.initial.reader l.reader l.entries.items l.ends.items

abbrev pub decreases-sessions : goal.decreases-sessions
decreases-sessions l = length l.reader
