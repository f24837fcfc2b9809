use Rattle.std.proofs.Common.{arith}
use Rattle.judge_session_orders.proofs.read_edges.push_edge.Goals as goal

pub overflow_add-source : goal.overflow_add-source
overflow_add-source c =
    let few = c.operations-operations.ensures.few in
    let count = c.operations-operations.ensures.count in
    let below = c.in-Some.ensures.below in
    record { fits = omega arith }
