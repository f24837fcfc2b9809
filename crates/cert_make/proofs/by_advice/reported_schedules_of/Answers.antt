use Rattle.std.proofs.Common.{List, ℕ, subst, sym}
use Rattle.model_history.specs.declared.op_id.OpId.{OpId}
use Rattle.order_causal.specs.Orders.{op}
use Rattle.order_causal.proofs.GatheredLaws.{lists-push}
use Rattle.cert_make.specs.ByAdvice.{IsToldSchedule}
use Rattle.cert_make.proofs.by_advice.reported_schedules_of.Goals as goal

pub loop-index-preserved : goal.loop-index-preserved
loop-index-preserved g c =
    let holds = IsToldSchedule g.O.SeqObject.query c.args.h.now c.args.advice.now c.args.vectors.now c.args.ops.now in
    rw c.in_ok-push.ensures.ok
    (lists-push holds c.args.session c.loop-index.index c.loop-index.schedules c.deref.result.now c.loop-index.invariant
    (subst (λ (xs : List ℕ). holds (op c.args.session c.loop-index.index) xs) (sym c.deref.ensures.value)
    (subst (λ (o : OpId). holds o c.in_ok-schedule.schedule.items) c.at.ensures c.in_ok-schedule.ensures)))
