use Rattle.model_history.specs.History.{many_before}
use Rattle.judge_memory.specs.Lists.{IsKeyOf, ListsEach}
use Rattle.judge_memory.proofs.variables.keys.Given as goal

-- the operations of the sessions so far have their keys
abbrev pub invariant-loop-session : goal.invariant-loop-session
invariant-loop-session l = ListsEach l.h (IsKeyOf l.h) (many_before l.h l.session) l.keys.items
