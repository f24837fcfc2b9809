use Rattle.std.specs.Prelude.{◌≡◌, length, slice_index_or}
use Rattle.judge_memory.specs.Steps.{many}
use Rattle.judge_columns.specs.Sights.{IsSeen, IsTable}
use Rattle.judge_columns.specs.Sweeps.{IsSwept}
use Rattle.judge_columns.proofs.sweeping.sweep_column.Given as goal

abbrev pub invariant-loop-operation : goal.invariant-loop-operation
invariant-loop-operation l = record {
  last_size : length l.last.items ≡ l.index.bound;
  late_size : length l.late.items ≡ many l.index.history;
  table : IsTable l.index.history l.index.variables l.session l.at l.last.items;
  swept : IsSwept l.index.history l.session (λ n. slice_index_or l.ends n 0) (λ n. slice_index_or l.firsts n 0)
      (IsSeen l.index.history l.operation) l.overwritten.start l.overwritten.read (λ n. slice_index_or l.late.items n 0);
}
