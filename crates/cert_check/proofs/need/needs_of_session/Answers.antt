use Rattle.cert_check.specs.declared.need.Need.{Need}
use Rattle.order_causal.specs.Orders.{op}
use Rattle.order_causal.proofs.VectorsLaws.{HasListOf-of_history}
use Rattle.std.proofs.Common.{List, length, ap, arith}
use Rattle.cert_check.proofs.NeedSteps.{needs-push}
use Rattle.cert_check.proofs.need.needs_of_session.Goals as goal

pub loop-index-preserved : goal.loop-index-preserved
loop-index-preserved g c =
    rw c.in_ok-push.ensures.items
    (needs-push c.args.v.now c.args.session c.loop-index.index c.loop-index.needs.items c.need_of_operation.result c.loop-index.invariant.0
    c.loop-index.invariant.1 (rw c.at.ensures at c.need_of_operation.ensures))

pub returns : goal.returns
returns g c = λ i below. c.loop-index.invariant.1 i (rw (← c.loop-index.invariant.0) below)

pub loop-index-init : goal.loop-index-init
loop-index-init g c = (ap (λ (xs : List Need). length xs) c.new-needs.ensures.items, λ i below. absurd (omega arith))

pub need_of_operation-requires : goal.need_of_operation-requires
need_of_operation-requires g c =
    let below = c.loop-index-test.true in
    let count = c.len-index-end.ensures.count in
    rw c.at.ensures (HasListOf-of_history c.args.h.now c.args.v.now (op c.args.session c.loop-index.index) c.requires.one_each (omega arith))
