use Rattle.std.proofs.Common.{rules}
use Rattle.std.proofs.lemmas.List.Sorted.{IsPartitionPoint-from_clause}
use Rattle.live_lamport_store.proofs.Partition.{partitioned, split-place, stands_before}
use Rattle.live_lamport_store.proofs.by_stamp.ByStampUpdateOrder.place_of.Goals as goal

pub returns-clause-place : goal.returns-clause-place
returns-clause-place g c =
    let split = IsPartitionPoint-from_clause (stands_before c.args.update.now) c.args.taken.now c.partition_point.result c.partition_point.ensures.partitioned
    (partitioned c.args.update.now c.args.taken.now c.requires) (λ a r f k. search rules) in
    split-place c.args.update.now c.args.taken.now c.partition_point.result c.requires c.partition_point.ensures.bound split
