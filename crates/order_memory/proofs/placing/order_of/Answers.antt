use Rattle.std.proofs.Common.{List, ℕ, sym, subst}
use Rattle.order_memory.specs.Steps.SourceWaits.{FollowsSources}
use Rattle.order_causal.specs.Waits.{IsTopologicalOrder}
use Rattle.order_memory.proofs.SourceWaits.{cycle-comes, order-finished, order-follows}
use Rattle.order_causal.proofs.WaitsLaws.{alike-sym, alike-trans}
use Rattle.order_memory.proofs.placing.order_of.Goals as goal

pub vectors_along-requires-clause-follows : goal.vectors_along-requires-clause-follows
vectors_along-requires-clause-follows c =
    let sources = c.args.sources.now in
    let waits = c.in_ok-waits.waits in
    let alike = alike-trans waits c.args.h.now.1 sources c.in_ok-waits.ensures.alike (alike-sym sources c.args.h.now.1 c.requires.alike) in
    let sorted = rw c.in-Order.is at c.in_ok-schedule.ensures.sorted in
    subst (λ (xs : List ℕ). FollowsSources sources xs) (sym c.deref.ensures.value)
    (order-follows sources waits alike c.in_ok-waits.ensures.exact c.requires.apart c.in-Order.schedule.items sorted.0)

pub returns-in-Order-clause-finished : goal.returns-in-Order-clause-finished
returns-in-Order-clause-finished c =
    let sources = c.args.sources.now in
    let waits = c.in_ok-waits.waits in
    let alike = alike-trans waits c.args.h.now.1 sources c.in_ok-waits.ensures.alike (alike-sym sources c.args.h.now.1 c.requires.alike) in
    let sorted = rw c.in-Order.is at c.in_ok-schedule.ensures.sorted in
    let whole = subst (λ (xs : List ℕ). IsTopologicalOrder waits xs) (sym c.deref.ensures.value) sorted.0 in
    order-finished sources waits alike c.in_ok-waits.ensures.exact c.deref.result.now whole c.in_ok-vectors_along-in-Order.field-0 c.in_ok-vectors_along-in-Order.ensures.placed

pub returns-clause-cyclic : goal.returns-clause-cyclic
returns-clause-cyclic c =
    let sources = c.args.sources.now in
    let waits = c.in_ok-waits.waits in
    let alike = alike-trans waits c.args.h.now.1 sources c.in_ok-waits.ensures.alike (alike-sym sources c.args.h.now.1 c.requires.alike) in
    let sorted = rw c.in-Cycle.is at c.in_ok-schedule.ensures.sorted in
    cycle-comes sources waits alike c.in_ok-waits.ensures.exact _ sorted
