use Rattle.std.specs.Prelude.{◌≡◌, length}
use Rattle.judge_memory.specs.Steps.{many}
use Rattle.judge_columns.specs.Forks.{AreForksFound}
use Rattle.judge_columns.proofs.forks.look_at_reads.Given as goal

abbrev pub invariant-loop-operation : goal.invariant-loop-operation
invariant-loop-operation l = record {
  size : length l.late.items ≡ many l.index.history;
  found : AreForksFound l.index.history l.writes l.from l.operation l.overwritten.start l.overwritten.read l.late.items;
}
