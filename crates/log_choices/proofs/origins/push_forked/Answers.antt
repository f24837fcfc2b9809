use Rattle.std.proofs.Common.{◌≡◌, ◌++◌, ◌∷◌, [], List, take, ap, sym, ◌∙◌, append_assoc}
use Rattle.std.specs.Prelude.{filter_map, option_map, Option}
use Rattle.std.specs.Option.{is_some}
use Rattle.log_events.specs.Events.{Call}
use Rattle.log_events.specs.Histories.{Operation}
use Rattle.log_events.proofs.Loops.{filter_map_more-some, filter_map_more-none, option_map-some, option_map-none}
use Rattle.log_choices.specs.ChoiceTables.{choice_in}
use Rattle.log_choices.specs.ChosenHistories.{fork_by}
use Rattle.log_choices.proofs.origins.push_forked.Goals as goal
use Rattle.log_choices.proofs.origins.push_forked.Goals.{then-is_some+in_ok-push, else-is_some}

pub loop-call-preserved : goal.loop-call-preserved
loop-call-preserved c =
    let f = λ (a : Call). fork_by c.args.calls.now.0 (choice_in c.args.calls.now.1) a.place a.call a.ending in
    let g = λ (a : Call). option_map (λ (l : List Operation). a ∷ a ∷ []) (f a) in
    let calls = c.calls-call-items.result.now in
    let i = c.loop-call.call-index in
    let a = c.call-item.result in
    let first = c.args.origins.now in
    let forks : c.is_some.result ≡ is_some (f a) = c.is_some.ensures ∙ ap (λ (o : Option (List Operation)). is_some o) c.fork.ensures in
    elim c.if-is_some.branch [
      | then-is_some+in_ok-push w ↦
          w.origins-is ∙ w.in_ok-push.ensures.ok ∙ ap (λ (l : List (List Call)). l ++ (a ∷ a ∷ []) ∷ []) c.loop-call.invariant
          ∙ append_assoc first (filter_map g (take i calls)) ((a ∷ a ∷ []) ∷ [])
          ∙ ap (λ (l : List (List Call)). first ++ l)
          (sym (filter_map_more-some g calls i a c.loop-call-test.true c.call-item.is (a ∷ a ∷ [])
          (option_map-some (a ∷ a ∷ []) (f a) (sym forks ∙ w.if-is_some.true))))
      | else-is_some w ↦
          w.origins-is ∙ c.loop-call.invariant
          ∙ ap (λ (l : List (List Call)). first ++ l)
          (sym (filter_map_more-none g calls i a c.loop-call-test.true c.call-item.is
          (option_map-none (a ∷ a ∷ []) (f a) (sym forks ∙ w.if-is_some.false))))
    ]
