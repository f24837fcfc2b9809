use Rattle.judge_decision.specs.Steps.ThinAir.{AreSourcedBelow}
use Rattle.judge_decision.proofs.thin_air.lacks_source.Given as goal

abbrev pub invariant-loop-operation : goal.invariant-loop-operation
invariant-loop-operation l = AreSourcedBelow l.index.history l.operation
