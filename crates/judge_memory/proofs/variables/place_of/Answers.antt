use Rattle.std.proofs.Common.{ltb, rules}
use Rattle.std.proofs.lemmas.List.Sorted.{IsPartitionPoint-from_clause, IsPartitionedBy-ltb}
use Rattle.judge_memory.proofs.KeyPlaces.{rising-place, rising-up}
use Rattle.judge_memory.proofs.variables.place_of.Goals as goal

pub returns-2 : goal.returns-2
returns-2 c =
    let split = IsPartitionPoint-from_clause (λ y. ltb y c.args.key) c.args.distinct.now
    c.partition_point.result c.partition_point.ensures.partitioned
    (IsPartitionedBy-ltb (λ x. x) c.args.distinct.now c.args.key (rising-up c.args.distinct.now c.requires.rising))
    (λ a r f k. search rules) in
    rising-place c.args.distinct.now c.requires.rising c.args.key c.partition_point.result split c.requires.listed
