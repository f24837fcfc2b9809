use Rattle.std.proofs.Common.{[], sym, subst, ◌∙◌}
use Rattle.std.specs.Prelude.{take}
use Rattle.std.proofs.lemmas.Option.{MatchOption-at_some}
use Rattle.order_causal.specs.Orders.{program_past}
use Rattle.cert_check.specs.Schedules.{named}
use Rattle.cert_check.specs.Steps.Replays.{AreAnswered, IsReplayAt}
use Rattle.cert_check.proofs.ReplaySteps.{answered_in_front, replayed_front}
use Rattle.cert_check.proofs.past_replay.PastReplay.begun.Goals as goal

pub returns-then-shared-before-clause-at : goal.returns-then-shared-before-clause-at
returns-then-shared-before-clause-at g c =
    let shared = c.shared_front-shared.result in
    let replay = c.in-Some.replay in
    let at = MatchOption-at_some _ _ replay (sym c.take.ensures.value ∙ c.in-Some.is) c.self.invariant.1 in
    subst (λ h. IsReplayAt g.O.SeqObject.stands h c.args.schedule.now shared (take shared (named c.args.schedule.now)) replay.naming.counts.items replay.object)
    c.self.view_is
    (replayed_front g.O.SeqObject.stands c.self.inside.history.now c.self.inside.schedule.now c.args.schedule.now shared c.if-shared-before.true
    c.shared_front-shared.ensures.same replay.naming.counts.items replay.object at)

pub returns-then-shared-before-clause-answered : goal.returns-then-shared-before-clause-answered
returns-then-shared-before-clause-answered g c =
    let answer = g.O.SeqObject.answer in
    let kept = program_past c.args.op in
    let shared = c.shared_front-shared.result in
    subst (λ h. AreAnswered answer h kept c.args.schedule.now shared) c.self.view_is
    (answered_in_front answer c.self.inside.history.now kept c.self.inside.schedule.now c.args.schedule.now shared
    c.shared_front-shared.ensures.same c.shared_front-shared.ensures.left (c.self.invariant.0.each c.args.op (sym c.if-self-op.true)))

pub returns-clause-at : goal.returns-clause-at
returns-clause-at g c =
    let replay = c.in_ok-replay.replay in
    subst (λ h. IsReplayAt g.O.SeqObject.stands h c.args.schedule.now 0 [] replay.naming.counts.items replay.object) c.self.view_is
    (c.in_ok-replay.ensures c.args.schedule.now)
