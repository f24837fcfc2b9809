use Rattle.model_history.specs.History.{many_before}
use Rattle.judge_memory.specs.Lists.{IsSessionOf, ListsEach}
use Rattle.judge_memory.proofs.sessions.sessions.Given as goal

-- the operations of the sessions so far have theirs
abbrev pub invariant-loop-session : goal.invariant-loop-session
invariant-loop-session l = ListsEach l.h IsSessionOf (many_before l.h l.session) l.sessions.items
