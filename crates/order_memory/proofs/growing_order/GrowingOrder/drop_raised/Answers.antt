use Rattle.std.proofs.Common.{arith, refl}
use Rattle.order_memory.proofs.Released.{dropped, released-or_end}
use Rattle.order_memory.proofs.growing_order.GrowingOrder.drop_raised.Goals as goal

pub returns : goal.returns
returns c =
    dropped c.args.h.now c.args.self.now _ c.pop-dropped.result _ _ c.pop-dropped.ensures.cases
    (λ none. omega (arith, c.pop-dropped.new.self.ok.0, none))
    (released-or_end c.args.h.now c.args.self.now _ c.requires refl refl refl refl refl refl c.pop-dropped.result c.pop-dropped.ensures.items _ _ c.pop-dropped.ensures.cases
    (λ none. omega (arith, c.pop-dropped.new.self.ok.0, none)))
