use Rattle.std.proofs.Common.{◌≡◌, ◌++◌, ◌∷◌, [], List, take}
use Rattle.std.specs.Prelude.{filter_map, option_map}
use Rattle.log_events.specs.Events.{Call}
use Rattle.log_events.specs.Histories.{Operation}
use Rattle.log_choices.specs.ChoiceTables.{choice_in}
use Rattle.log_choices.specs.ChosenHistories.{fork_by}
use Rattle.log_choices.proofs.origins.push_forked.Given as goal

-- those of the calls so far that fork
abbrev pub invariant-loop-call : goal.invariant-loop-call
invariant-loop-call l = l.origins ≡ l.initial.origins
    ++ filter_map (λ (a : Call). option_map (λ (l : List Operation). a ∷ a ∷ []) (fork_by l.calls.0 (choice_in l.calls.1) a.place a.call a.ending)) (take l.call-index l.call-items)
