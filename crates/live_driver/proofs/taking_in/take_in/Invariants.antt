use Rattle.std.proofs.Common.{◌≡◌}
use Rattle.live_driver.proofs.taking_in.take_in.Given as goal

abbrev pub invariant-loop : goal.invariant-loop
invariant-loop g l = l.replica.operations ≡ l.fn.replica.operations
