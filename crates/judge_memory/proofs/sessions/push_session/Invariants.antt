use Rattle.std.specs.Prelude.{◌+◌}
use Rattle.model_history.specs.History.{many_before}
use Rattle.judge_memory.specs.Lists.{IsSessionOf, ListsEach}
use Rattle.judge_memory.proofs.sessions.push_session.Given as goal

-- the operations so far have their session
abbrev pub invariant-loop-operation : goal.invariant-loop-operation
invariant-loop-operation l = ListsEach l.h IsSessionOf (many_before l.h l.session + l._operation-index) l.sessions.items
