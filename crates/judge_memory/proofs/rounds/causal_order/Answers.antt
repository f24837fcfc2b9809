use Rattle.judge_memory.proofs.Orders.{unlisted-order}
use Rattle.judge_memory.proofs.rounds.causal_order.Goals as goal

pub returns : goal.returns
returns c = unlisted-order c.args.index.now.history (λ o. o.items) c.order.result c.order.ensures
