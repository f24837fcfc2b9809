use Rattle.cert_check.specs.Steps.Replays.{AreAnswered}
use Rattle.cert_check.specs.Schedules.{IsSchedule}
use Rattle.order_causal.specs.Vectors.{AreVectorsOf, IsVectorOk}
use Rattle.order_causal.specs.Orders.{program_past}
use Rattle.model_history.specs.History.{IsOp}
use Rattle.std.specs.Prelude.{◌↔◌, IfOk, IfSome, IsTrue}
use Rattle.std.proofs.Common.{Bool, length, subst, sym}
use Rattle.cert_check.proofs.past_replay.PastReplay.asked_back.Goals as goal

pub are_answered_behind-requires-clause-shape : goal.are_answered_behind-requires-clause-shape
are_answered_behind-requires-clause-shape g c = λ _ _. subst (λ h. AreVectorsOf h c.args.v.now) (sym c.self.view_is) c.requires.shape

pub are_answered_behind-requires-clause-is_op : goal.are_answered_behind-requires-clause-is_op
are_answered_behind-requires-clause-is_op g c = λ _ _. subst (λ h. IsOp h c.args.op) (sym c.self.view_is) c.requires.is_op

pub are_answered_behind-requires-clause-vector : goal.are_answered_behind-requires-clause-vector
are_answered_behind-requires-clause-vector g c = λ _ _. subst (λ h. IsVectorOk h c.args.v.now c.args.op) (sym c.self.view_is) c.requires.vector

pub are_answered_behind-requires-clause-schedule : goal.are_answered_behind-requires-clause-schedule
are_answered_behind-requires-clause-schedule g c = λ _ _. subst (λ h. IsSchedule h c.args.v.now c.args.op c.args.schedule.now) (sym c.self.view_is) c.requires.schedule

pub are_answered_behind-requires-clause-answered : goal.are_answered_behind-requires-clause-answered
are_answered_behind-requires-clause-answered g c = λ _ _.
    subst (λ h. AreAnswered g.O.SeqObject.answer h (program_past c.args.op) c.args.schedule.now c.answered_front-front.result) (sym c.self.view_is)
    c.answered_front-front.ensures

pub returns : goal.returns
returns g c =
    let list = c.args.schedule.now in
    subst (λ h. IfOk c.are_answered_behind.result (λ told. IfSome told (λ (yes : Bool). IsTrue yes
    ↔ AreAnswered g.O.SeqObject.answer h (program_past c.args.op) list (length list)))) c.self.view_is c.are_answered_behind.ensures
