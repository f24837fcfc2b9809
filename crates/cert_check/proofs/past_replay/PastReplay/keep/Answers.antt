use Rattle.std.proofs.Common.{◌≡◌, length, sym, subst}
use Rattle.std.specs.Prelude.{IfSome}
use Rattle.order_causal.specs.Orders.{program_past}
use Rattle.order_causal.specs.Vectors.{IsVectorOk}
use Rattle.cert_check.specs.Schedules.{named, IsSchedule}
use Rattle.cert_check.specs.Steps.Replays.{AreAnswered, IsReplayAt}
use Rattle.cert_check.proofs.SchedulePieces.{answered_later}
use Rattle.cert_check.proofs.past_replay.PastReplay.keep.Goals as goal

pub invariant_of-self : goal.invariant_of-self
invariant_of-self g c =
    let answer = g.O.SeqObject.answer in
    let h = c.self.inside.history.now in
    let o = c.args.op in
    let list = c.args.schedule.now in
    let v = c.requires.good.0 in
    let is : c.args.self.now ≡ h = sym c.self.view_is in
    let vector = subst (λ x. IsVectorOk x v o) is c.requires.good.1 in
    let schedule = subst (λ x. IsSchedule x v o list) is c.requires.good.2 in
    let answered = subst (λ x. AreAnswered answer x (program_past o) list (length list)) is c.requires.answered in (
      record { each = λ later same. answered_later answer h v o list schedule vector later same answered },
      rw c.replace.ensures.after (subst (λ x. IfSome c.args.replay (λ r. IsReplayAt g.O.SeqObject.stands x list (length list) (named list) r.naming.counts.items r.object))
          is c.requires.replayed),
    )
