use Rattle.std.proofs.Common.{sym, subst}
use Rattle.order_causal.specs.Orders.{program_past}
use Rattle.cert_check.specs.Steps.Replays.{AreAnswered}
use Rattle.cert_check.proofs.ReplaySteps.{answered_in_front}
use Rattle.cert_check.proofs.past_replay.PastReplay.answered_front.Goals as goal

pub returns-then-self-op : goal.returns-then-self-op
returns-then-self-op g c =
    let answer = g.O.SeqObject.answer in
    let kept = program_past c.args.op in
    let shared = c.shared_front.result in
    subst (λ h. AreAnswered answer h kept c.args.schedule.now shared) c.self.view_is
    (answered_in_front answer c.self.inside.history.now kept c.self.inside.schedule.now c.args.schedule.now shared
    c.shared_front.ensures.same c.shared_front.ensures.left (c.self.invariant.0.each c.args.op (sym c.if-self-op.true)))
