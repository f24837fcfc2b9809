use Rattle.std.proofs.Common.{◌≡◌, ◌<◌, ◌≤◌, ◌-◌, ℕ, true, false, drop, rules, arith}
use Rattle.std.proofs.lemmas.Bool.{ltb-false}
use Rattle.std.proofs.lemmas.List.{length-take}
use Rattle.std.proofs.lemmas.List.Sorted.{IsNonDecreasingBy-from_sort, IsPartitionedBy-ltb, IsPartitionedBy-leb, IsPartitionPoint-from_clause}
use Rattle.log_choices.specs.declared.forced_kept.Delete.{Delete}
use Rattle.log_choices.proofs.ForcedDeletes.{within-to}
use Rattle.log_choices.proofs.checked_choice.has_key.Goals as goal
use lib.Dec.{ltb, leb}

pub returns : goal.returns
returns c =
    let xs = c.args.deletes.now in
    let x = c.args.key in
    let from = c.partition_point-from.result in
    let to = c.partition_point-to.result in
    let sorted = IsNonDecreasingBy-from_sort (λ (d : Delete). d.key) xs c.requires in
    let low = IsPartitionPoint-from_clause (λ (d : Delete). ltb d.key x) xs from c.partition_point-from.ensures.partitioned
    (IsPartitionedBy-ltb (λ (d : Delete). d.key) xs x sorted) (λ a r f k. search rules) in
    let high = IsPartitionPoint-from_clause (λ (d : Delete). leb d.key x) xs to c.partition_point-to.ensures.partitioned
    (IsPartitionedBy-leb (λ (d : Delete). d.key) xs x sorted) (λ a r f k. search rules) in
    λ no d there key.
    let both = within-to xs x from to low high c.partition_point-to.ensures.bound d (there, key) in
    let (i, below, _) = both.1 in
    let short : i < to - from = omega (arith, length-take (to - from) (drop from xs)) in
    let over : to ≤ from = ltb-false from to no in absurd (omega arith)
