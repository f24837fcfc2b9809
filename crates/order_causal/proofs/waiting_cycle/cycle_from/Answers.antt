use Rattle.std.proofs.Common.{List, subst, arith}
use Rattle.model_history.specs.declared.op_id.OpId.{OpId}
use Rattle.order_causal.specs.Orders.{StandsAt}
use Rattle.order_causal.proofs.WaitRoutes.{unplaced-exists}
use Rattle.order_causal.proofs.waiting_cycle.cycle_from.Goals as goal

pub first_repetition-places-requires-clause-few : goal.first_repetition-places-requires-clause-few
first_repetition-places-requires-clause-few c = λ j a at.
    let here = subst (λ (ops : List OpId). StandsAt ops j a) c.deref.ensures.value at in
    let exists = unplaced-exists c.args.waits.now c.args.walk.now a (c.in_ok-chain.ensures.chain.unplaced j a here) in
    let sessions = c.sessions.ensures in
    omega arith
