use Rattle.order_memory.specs.Steps.GrowthSteps.{NoReads}
use Rattle.order_memory.proofs.Joined.{raised-alone}
use Rattle.order_memory.proofs.growing_order.GrowingOrder.raise_alone.Goals as goal

pub returns : goal.returns
returns c =
    let within = rw c.place.ensures at (rw c.session_place-place.ensures at c.in_ok-raise_from.ensures.within) in
    let raised = rw c.place.ensures at (rw c.session_place-place.ensures at c.in_ok-raise_from.ensures.raised) in
    raised-alone c.args.h.now c.args.self.now c.raise_from.new.self c.drop_raised.new.self c.args.op c.args.session c.args.number c.requires.last c.requires.empty
    (within NoReads (λ _. c.requires.cause)) raised c.in_ok-raise_from.ensures.few c.drop_raised.ensures
