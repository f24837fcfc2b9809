use Rattle.std.proofs.Common.{ℕ, List, ap, sym, subst, ◌∙◌}
use Rattle.std.proofs.lemmas.Result.{IfOk-weaker}
use Rattle.log_events.specs.declared.event.Event.{Event}
use Rattle.log_choices.specs.declared.seen.Seen.{Seen}
use Rattle.log_choices.specs.ChoiceTables.{choice_in}
use Rattle.log_choices.specs.ChosenOrigins.{AreOriginsBy, origins_by}
use Rattle.log_choices.proofs.ChosenOriginsLaws.{origins-listed}
use Rattle.log_choices.proofs.chosen_history.origins_by.Goals as goal

pub returns-clause-each : goal.returns-clause-each
returns-clause-each c =
    let es = c.args.log.now in
    let f = choice_in c.args.choice.now in
    IfOk-weaker c.origins_of.result _ _
    (λ calls is. subst (AreOriginsBy es f) (sym (is ∙ ap (λ (v : List Event × List (ℕ × Seen)). origins_by v.0 (choice_in v.1)) c.in_ok-calls.ensures)) (origins-listed es f))
    c.origins_of.ensures
