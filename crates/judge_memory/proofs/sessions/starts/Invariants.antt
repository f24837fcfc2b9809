use Rattle.std.specs.Prelude.{◌≡◌}
use Rattle.model_history.specs.History.{many_before}
use Rattle.judge_memory.specs.Lists.{ListsStarts}
use Rattle.judge_memory.proofs.sessions.starts.Given as goal

-- the sessions so far have their numbers
abbrev pub invariant-loop-session : goal.invariant-loop-session
invariant-loop-session l = record {
  next : l.next ≡ many_before l.h l.session;
  so_far : ListsStarts l.h l.session l.starts.items;
}
