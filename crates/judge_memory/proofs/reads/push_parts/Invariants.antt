use Rattle.std.specs.Prelude.{◌+◌}
use Rattle.model_history.specs.History.{many_before}
use Rattle.judge_memory.specs.Lists.{ListsEach}
use Rattle.judge_memory.specs.Parts.{IsPart}
use Rattle.judge_memory.proofs.reads.push_parts.Given as goal

-- the operations so far have their parts
abbrev pub invariant-loop-operation : goal.invariant-loop-operation
invariant-loop-operation l = ListsEach l.h (IsPart l.h) (many_before l.h l.session + l.operation-index) l.parts.items
