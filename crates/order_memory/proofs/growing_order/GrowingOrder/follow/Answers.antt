use Rattle.std.proofs.Common.{◌≡◌}
use Rattle.order_memory.specs.Steps.GrowthSteps.{NoReads}
use Rattle.order_memory.proofs.GrowthLaws.{within-then}
use Rattle.order_memory.proofs.Outcomes.{on_ok-one}
use Rattle.order_memory.proofs.Raises.{settled-within}
use Rattle.order_memory.proofs.growing_order.GrowingOrder.follow.Goals as goal

pub add_behind-requires-clause-settled : goal.add_behind-requires-clause-settled
add_behind-requires-clause-settled c =
    settled-within c.args.h.now NoReads (λ e. e ≡ c.args.raised) c.args.self.now c.add_last.new.self c.in_ok-add_last.ensures.within c.requires.settled

pub returns-clause-within : goal.returns-clause-within
returns-clause-within c =
    on_ok-one c.add_behind.result _ _
    (λ within. within-then c.args.h.now NoReads c.args.self.now c.add_last.new.self c.add_behind.new.self c.in_ok-add_last.ensures.within within)
    c.add_behind.ensures.within
