use Rattle.std.proofs.Common.{sym, subst, ◌∙◌}
use Rattle.order_causal.specs.Vectors.{Counts}
use Rattle.order_memory.specs.SourceOrder.{CountsSourceOrder}
use Rattle.cert_make_ccv.proofs.ByRule.{cycle-first, sorted-by_rule}
use Rattle.cert_make_ccv.proofs.by_conflicts.make_by_order.Goals as goal

pub returns-clause-none : goal.returns-clause-none
returns-clause-none c =
    let sorted = rw c.in-Cycle.is at c.in_ok-list.ensures.sorted in
    cycle-first c.args.order.now c.in_ok-waits.waits c.in_ok-waits.ensures.alike c.in_ok-waits.ensures.exact _ sorted

pub returns-in-Order-clause-shape : goal.returns-in-Order-clause-shape
returns-in-Order-clause-shape c =
    let sorted = rw c.in-Order.is at c.in_ok-list.ensures.sorted in
    let counts = subst (λ (v : Counts). CountsSourceOrder c.args.order.now v) (sym c.in_ok-vectors-in-Order.ensures) c.vectors.ensures in
    rw c.of.ensures (counts.vectors, λ s. sorted.0.whole s ∙ c.in_ok-waits.ensures.alike.operations s)

pub returns-in-Order-clause-exact : goal.returns-in-Order-clause-exact
returns-in-Order-clause-exact c =
    let sorted = rw c.in-Order.is at c.in_ok-list.ensures.sorted in
    let counts = subst (λ (v : Counts). CountsSourceOrder c.args.order.now v) (sym c.in_ok-vectors-in-Order.ensures) c.vectors.ensures in
    rw c.of.ensures (record {
      order = counts;
      by_rule = sorted-by_rule c.args.order.now c.in_ok-waits.waits c.in_ok-waits.ensures.alike c.in_ok-waits.ensures.exact c.in-Order.list.items sorted.0;
    })
