use Rattle.model_history.specs.History.{many_before}
use Rattle.judge_memory.specs.Lists.{ListsEach}
use Rattle.judge_memory.specs.Parts.{IsPart}
use Rattle.judge_memory.proofs.reads.parts.Given as goal

-- the operations of the sessions so far have their parts
abbrev pub invariant-loop-session : goal.invariant-loop-session
invariant-loop-session l = ListsEach l.h (IsPart l.h) (many_before l.h l.session) l.parts.items
