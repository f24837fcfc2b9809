use Rattle.judge_session_orders.proofs.LoneOrders.{lone-ordered}
use Rattle.judge_session_orders.proofs.ordering.order_where_needed.Goals as goal

pub returns-else-may_lack_order-clause-outcome : goal.returns-else-may_lack_order-clause-outcome
returns-else-may_lack_order-clause-outcome c =
    lone-ordered c.args.index.now.history c.requires.known.distinct c.requires.sources c.args.order.now c.requires.order c.args.own
    (c.may_lack_order.ensures (λ yes. (let no = c.if-may_lack_order.false in absurd cc)))
