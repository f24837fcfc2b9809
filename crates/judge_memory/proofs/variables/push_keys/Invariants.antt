use Rattle.std.specs.Prelude.{◌+◌}
use Rattle.model_history.specs.History.{many_before}
use Rattle.judge_memory.specs.Lists.{IsKeyOf, ListsEach}
use Rattle.judge_memory.proofs.variables.push_keys.Given as goal

-- the operations so far have their keys
abbrev pub invariant-loop-call : goal.invariant-loop-call
invariant-loop-call l = ListsEach l.h (IsKeyOf l.h) (many_before l.h l.session + l.call-index) l.keys.items
