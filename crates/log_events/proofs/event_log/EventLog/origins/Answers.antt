use Rattle.std.proofs.Common.{List, ap, sym, subst, ◌∙◌}
use Rattle.std.proofs.lemmas.Result.{IfOk-weaker}
use Rattle.log_events.specs.declared.event.Event.{Event}
use Rattle.log_events.specs.Origins.{AreOrigins, origins_of}
use Rattle.log_events.proofs.OriginsLaws.{origins-stand}
use Rattle.log_events.proofs.event_log.EventLog.origins.Goals as goal

pub returns-clause-stand : goal.returns-clause-stand
returns-clause-stand c = IfOk-weaker c.origins_of.result _ _
    (λ calls is. subst (AreOrigins c.args.self.now) (sym (is ∙ ap (λ (l : List Event). origins_of l) c.in_ok-outcomes.ensures)) (origins-stand c.args.self.now))
    c.origins_of.ensures
