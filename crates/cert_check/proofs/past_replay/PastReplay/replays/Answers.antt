use Rattle.std.proofs.Common.{length, refl, sym, subst, ◌∙◌}
use Rattle.std.specs.Prelude.{take}
use Rattle.order_causal.specs.Orders.{program_past}
use Rattle.order_causal.specs.Vectors.{IsVectorOk}
use Rattle.cert_check.specs.Schedules.{named, IsSchedule}
use Rattle.cert_check.specs.Steps.Replays.{AreAnswered, IsReplayAt, NamesOperations}
use Rattle.cert_check.proofs.SchedulePieces.{schedule-names}
use Rattle.cert_check.proofs.past_replay.PastReplay.replays.Goals as goal

pub go_through-requires-clause-at : goal.go_through-requires-clause-at
go_through-requires-clause-at g c = λ _ _.
    let list = c.args.schedule.now in
    let from = c.in_ok-replay.from in
    let replay = c.in_ok-replay.replay in
    subst (λ h. IsReplayAt g.O.SeqObject.stands h list from (take from (named list)) replay.naming.counts.items replay.object)
    (sym (c.self.view_is ∙ c.in_ok-replay.ensures.same)) c.in_ok-replay.ensures.at

pub go_through-requires-clause-names : goal.go_through-requires-clause-names
go_through-requires-clause-names g c = λ _ _.
    let list = c.args.schedule.now in
    let good = c.requires.good in
    subst (λ h. NamesOperations h list) (sym (c.self.view_is ∙ c.in_ok-replay.ensures.same)) (schedule-names c.args.self.now good.0 c.args.op list good.2)

pub keep-requires-clause-replayed : goal.keep-requires-clause-replayed
keep-requires-clause-replayed g c = λ _ _.
    let list = c.args.schedule.now in
    let replay = c.go_through.new.self in
    subst (λ h. IsReplayAt g.O.SeqObject.stands h list (length list) (named list) replay.naming.counts.items replay.object) c.self.view_is
    (c.in-Ok-true.ensures.on c.in-Ok-true.field-0-test)

pub keep-requires-clause-answered : goal.keep-requires-clause-answered
keep-requires-clause-answered g c = λ _ _.
    let answer = g.O.SeqObject.answer in
    let list = c.args.schedule.now in
    let before = subst (λ h. AreAnswered answer h (program_past c.args.op) list c.in_ok-replay.from) (sym (c.self.view_is ∙ c.in_ok-replay.ensures.same))
    c.in_ok-replay.ensures.answered in
    subst (λ h. AreAnswered answer h (program_past c.args.op) list (length list)) c.self.view_is
    ((c.in-Ok-true.ensures.exact before).0 c.in-Ok-true.field-0-test)

pub keep-requires-clause-good : goal.keep-requires-clause-good
keep-requires-clause-good g c = λ _ _.
    let good = c.requires.good in
    let same = sym c.in_ok-replay.ensures.same in (
      good.0,
      subst (λ h. IsVectorOk h good.0 c.args.op) same good.1,
      subst (λ h. IsSchedule h good.0 c.args.op c.args.schedule.now) same good.2,
    )

pub returns-in-Ok-true-clause-exact : goal.returns-in-Ok-true-clause-exact
returns-in-Ok-true-clause-exact g c =
    let answer = g.O.SeqObject.answer in
    let list = c.args.schedule.now in
    let same = c.self.view_is ∙ c.in_ok-replay.ensures.same in
    let before = subst (λ h. AreAnswered answer h (program_past c.args.op) list c.in_ok-replay.from) (sym same) c.in_ok-replay.ensures.answered in (
      (λ _. subst (λ h. AreAnswered answer h (program_past c.args.op) list (length list)) same ((c.in-Ok-true.ensures.exact before).0 c.in-Ok-true.field-0-test)),
      λ _. refl,
    )
