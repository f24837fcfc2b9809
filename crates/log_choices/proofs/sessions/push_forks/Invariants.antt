use Rattle.std.proofs.Common.{◌≡◌, ◌++◌, take}
use Rattle.std.specs.Prelude.{filter_map}
use Rattle.log_events.specs.Events.{Call}
use Rattle.log_choices.specs.ChoiceTables.{choice_in}
use Rattle.log_choices.specs.ChosenHistories.{fork_by}
use Rattle.log_choices.proofs.sessions.push_forks.Given as goal

-- the forks of the calls so far
abbrev pub invariant-loop-call : goal.invariant-loop-call
invariant-loop-call l = l.sessions
    ≡ l.initial.sessions ++ filter_map (λ (a : Call). fork_by l.calls.0 (choice_in l.calls.1) a.place a.call a.ending) (take l.call-index l.call-items)
