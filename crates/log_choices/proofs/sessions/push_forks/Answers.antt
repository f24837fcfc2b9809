use Rattle.std.proofs.Common.{◌++◌, ◌∷◌, [], List, take, ap, sym, ◌∙◌, append_assoc}
use Rattle.std.specs.Prelude.{filter_map}
use Rattle.log_events.specs.Events.{Call}
use Rattle.log_events.specs.Histories.{Operation}
use Rattle.log_events.proofs.Loops.{filter_map_more-some, filter_map_more-none}
use Rattle.log_choices.specs.ChoiceTables.{choice_in}
use Rattle.log_choices.specs.ChosenHistories.{fork_by}
use Rattle.log_choices.proofs.sessions.push_forks.Goals as goal
use Rattle.log_choices.proofs.sessions.push_forks.Goals.{in-Some+in_ok-push, in_default}

pub loop-call-preserved : goal.loop-call-preserved
loop-call-preserved c =
    let f = λ (a : Call). fork_by c.args.calls.now.0 (choice_in c.args.calls.now.1) a.place a.call a.ending in
    let calls = c.calls-call-items.result.now in
    let i = c.loop-call.call-index in
    let first = c.args.sessions.now in
    elim c.match-fork.branch [
      | in-Some+in_ok-push w ↦
          w.sessions-is ∙ w.in_ok-push.ensures.ok ∙ ap (λ (l : List (List Operation)). l ++ w.in-Some.fork ∷ []) c.loop-call.invariant
          ∙ append_assoc first (filter_map f (take i calls)) (w.in-Some.fork ∷ [])
          ∙ ap (λ (l : List (List Operation)). first ++ l)
          (sym (filter_map_more-some f calls i c.call-item.result c.loop-call-test.true c.call-item.is w.in-Some.fork (sym w.in-Some.ensures)))
      | in_default w ↦
          w.sessions-is ∙ c.loop-call.invariant
          ∙ ap (λ (l : List (List Operation)). first ++ l)
          (sym (filter_map_more-none f calls i c.call-item.result c.loop-call-test.true c.call-item.is (sym c.fork.ensures ∙ w.in_default.is)))
    ]
