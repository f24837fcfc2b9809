use Rattle.std.proofs.Common.{arith, refl}
use Rattle.order_memory.proofs.Released.{released-or_end}
use Rattle.order_memory.proofs.growing_order.GrowingOrder.next_raised.Goals as goal

pub returns : goal.returns
returns c = released-or_end c.args.h.now c.args.self.now _ c.requires refl refl refl refl refl refl c.pop.result c.pop.ensures.items _ _ c.pop.ensures.cases
    (λ none. omega (arith, c.pop.new.self.ok.0, none))
