use Rattle.std.proofs.Common.{arith, ◌-◌}
use Rattle.order_memory.proofs.GrowingSteps.{last-followed}
use Rattle.order_memory.proofs.Outcomes.{on_ok-both}
use Rattle.order_memory.proofs.growing_order.GrowingOrder.add_last.Goals as goal

pub returns-clause-followed : goal.returns-clause-followed
returns-clause-followed c =
    let value = c.count-count.ensures in
    let some = c.if-count-eq0.false in
    on_ok-both c.add_past.result _ _ _
    (λ within past. last-followed c.args.h.now c.args.self.now c.add_past.new.self c.args.op c.args.session (c.count-count.result - 1) within (omega arith)
    (rw c.from.ensures at (rw c.at-last.ensures at past)))
    c.add_past.ensures.within c.add_past.ensures.past
