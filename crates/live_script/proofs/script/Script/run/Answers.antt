use Rattle.std.proofs.Common.{length, subst, ap, ◌∙◌}
use Rattle.std.specs.List.{zip}
use Rattle.std.proofs.lemmas.Result.{IfOk-weaker}
use Rattle.live_simulation.specs.Runs.{IsRun}
use Rattle.live_script.proofs.script.Script.run.Goals as goal

pub returns-clause-many : goal.returns-clause-many
returns-clause-many g c =
    IfOk-weaker c.run-replies.result _ _
    (λ replies many. rw (← c.self.view_is) (many ∙ ap length (c.as_slice.ensures.value ∙ c.in_ok-steps.ensures))) c.run-replies.ensures.many

pub returns-clause-replies : goal.returns-clause-replies
returns-clause-replies g c =
    IfOk-weaker c.run-replies.result _ _
    (λ replies run. rw (← c.self.view_is)
    (subst (λ steps. IsRun g.O.SeqObject.matches g.O.SeqObject.answer g.O.Refutable.passes c.self.inside.start c.self.inside.sessions (zip steps replies.items))
    (c.as_slice.ensures.value ∙ c.in_ok-steps.ensures) run)) c.run-replies.ensures.replies
