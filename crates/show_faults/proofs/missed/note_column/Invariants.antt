use Rattle.std.specs.Prelude.{◌≡◌, length, slice_index_or}
use Rattle.judge_columns.specs.Sights.{IsTable}
use Rattle.show_faults.specs.Noted.{AreNotedBelow}
use Rattle.show_faults.proofs.missed.note_column.Given as goal

abbrev pub invariant-loop-operation : goal.invariant-loop-operation
invariant-loop-operation l = record {
  last_size : length l.last.items ≡ l.index.bound;
  table : IsTable l.index.history l.index.variables (slice_index_or l.sessions l.i 0) l.at l.last.items;
  noted : AreNotedBelow l.index.history l.sessions l.i l.operation l.missed.items;
}
