use Rattle.order_memory.proofs.Stale.{next-counted}
use Rattle.order_memory.proofs.growing_order.GrowingOrder.next_more.Goals as goal

pub returns : goal.returns
returns c =
    next-counted c.args.self.now.counts c.args.one c.args.other _ c.args.from c.get.result.now c.get-2.result.now c.get.ensures c.get-2.ensures
    (c.requires.growing.counts.vectors.counts c.args.one c.requires.one) c.next_above.result c.next_above.ensures
