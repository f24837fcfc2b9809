use Rattle.std.specs.Prelude.{[]}
use Rattle.judge_memory.proofs.Orders.{order_by-straight}
use Rattle.show_faults.proofs.Tallied.{straight-known}
use Rattle.show_faults.proofs.finding.find_faults.Goals as goal

pub returns-in_ok-missed-in-Some-clause-cycle : goal.returns-in_ok-missed-in-Some-clause-cycle
returns-in_ok-missed-in-Some-clause-cycle g c =
    let h = c.args.index.now.history in
    let ordered = rw c.in-Some.is at c.in_ok-order.ensures in
    straight-known h (order_by-straight h [] c.in-Some.order.items ordered) c.tally.result (λ f. f.has_cycle) c.tally.ensures.cycle
