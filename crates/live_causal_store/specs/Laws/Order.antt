-- Laws of the order in which updates were delivered.
use Rattle.std.specs.Prelude.{◌≤◌, List, length}
use Rattle.std.proofs.Common.{arith}
use Rattle.live_replica.specs.Orders.{Key}

-- behind all is within
pub length_within : (ks : List Key) (k : Key) → length ks ≤ length ks
length_within ks k = omega arith
