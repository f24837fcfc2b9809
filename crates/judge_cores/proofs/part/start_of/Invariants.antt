use Rattle.model_objects.specs.Table.{IsTable}
use Rattle.judge_cores.proofs.part.start_of.Given as goal

abbrev pub invariant-loop-key : goal.invariant-loop-key
invariant-loop-key l = IsTable 0 (λ _. Unit {0}) l.start
