-- The refusals of a replica, and their numbers.
use Rattle.std.specs.Prelude.{ℕ}
use Rattle.live_replica.specs.declared.replica_error.ReplicaError.{ReplicaError}
use Rattle.live_replica.specs.declared.replica_error.ReplicaError.TheVariants.{Memory, LaneFull, ClockFull}

abbrev pub number_of : ReplicaError → ℕ
number_of Memory = 8
number_of LaneFull = 11
number_of ClockFull = 16
