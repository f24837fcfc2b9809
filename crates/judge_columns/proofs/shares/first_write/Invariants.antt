use Rattle.judge_columns.specs.Forks.{AreNoWrites}
use Rattle.judge_columns.proofs.shares.first_write.Given as goal

abbrev pub invariant-loop-operation : goal.invariant-loop-operation
invariant-loop-operation l = AreNoWrites l.index.history l.from l.operation
