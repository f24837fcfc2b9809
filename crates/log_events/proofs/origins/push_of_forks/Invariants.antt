use Rattle.std.proofs.Common.{◌≡◌, ◌++◌, ◌∷◌, [], List, take}
use Rattle.std.specs.Prelude.{filter_map, option_map}
use Rattle.log_events.specs.Events.{Call}
use Rattle.log_events.specs.Histories.{Operation, fork}
use Rattle.log_events.proofs.origins.push_of_forks.Given as goal

-- those of the calls so far that fork
abbrev pub invariant-loop-call : goal.invariant-loop-call
invariant-loop-call l = l.origins ≡ l.initial.origins
    ++ filter_map (λ (a : Call). option_map (λ (es : List Operation). a ∷ a ∷ []) (fork l.outcomes a.place a.call a.ending)) (take l.call-index l.call-items)
