use Rattle.std.proofs.Common.{length, ap, ◌∙◌}
use Rattle.model_history.specs.History.{session}
use Rattle.live_driver.proofs.FirstCalls.{met_first}
use Rattle.live_driver.proofs.first_calls.check_session.Goals as goal

pub returns-then-met-len-clause-calls : goal.returns-then-met-len-clause-calls
returns-then-met-len-clause-calls g c =
    let h = c.args.sealed.now.history in
    let all = c.if-met-len.true ∙ (c.len.ensures.count ∙ (ap (λ x. length (session x c.lane.result)) c.history.ensures ∙ ap (λ k. length (session h k)) c.lane.ensures)) in
    met_first c.args.run.now.input.now h c.args.session.now c.meet-met.result.calls all c.meet-met.ensures.same_calls c.requires.recorded.calls
