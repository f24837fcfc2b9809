use Rattle.live_driver.proofs.Receiving.{receiving_keeps}
use Rattle.live_driver.proofs.taking_in.receive.Goals as goal

pub returns-in-Ok-clause-operations : goal.returns-in-Ok-clause-operations
returns-in-Ok-clause-operations g c = receiving_keeps g.P.UpdateOrder.place c.args.replica.now c.receive.new.self c.args.update c.in-Ok.ensures.ignored c.in-Ok.ensures.eager c.in-Ok.ensures.causal
