use Rattle.std.specs.Prelude.{◌≡◌, length}
use Rattle.judge_memory.specs.Steps.{many}
use Rattle.show_faults.specs.Noted.{AreNoted}
use Rattle.show_faults.proofs.missed.missed_writes.Given as goal

abbrev pub invariant-loop-i : goal.invariant-loop-i
invariant-loop-i l = record {
  ends : length l.column.ends.items ≡ many l.index.history;
  firsts : length l.column.firsts.items ≡ many l.index.history;
  last : length l.column.last.items ≡ l.index.bound;
  noted : AreNoted l.index.history l.sessions.items l.i l.missed.items;
}
