use Rattle.judge_cores.specs.Parts.{IsMemorySession}
use Rattle.judge_cores.proofs.part.operations_at.Given as goal

abbrev pub invariant-loop-op : goal.invariant-loop-op
invariant-loop-op l = IsMemorySession l.operations.items
