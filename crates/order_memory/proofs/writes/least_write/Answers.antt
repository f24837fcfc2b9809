use Rattle.std.proofs.Common.{rules, arith, ◌<◌, length}
use Rattle.std.proofs.lemmas.List.Sorted.{IsPartitionPoint-from_clause}
use Rattle.std.proofs.lemmas.Option.{slice_get-get_or}
use Rattle.order_causal.specs.Orders.{op}
use Rattle.order_memory.specs.declared.writes.Write.{Write}
use Rattle.order_memory.proofs.Least.{is_before, before-partitioned, none-past, least-found, none-found}
use Rattle.order_memory.proofs.writes.least_write.Goals as goal
use Rattle.order_memory.proofs.writes.least_write.Goals.{else-write-key-via-then-write-key+else-write-value, else-write-key-via-else-write-key}

abbrev any : Write
any = record { op = op 0 0; key = 0; value = 0 }

pub returns-then-at-writes : goal.returns-then-at-writes
returns-then-at-writes c =
    let split = IsPartitionPoint-from_clause (is_before c.args.writes.now c.args.key c.args.value) c.args.writes.now c.partition_point-at.result c.partition_point-at.ensures.partitioned
    (before-partitioned c.args.writes.now c.args.key c.args.value c.requires.sorted) (λ a r f k. search rules) in
    none-past c.args.writes.now c.args.key c.args.value c.partition_point-at.result split (omega arith)

pub returns-then-write-value : goal.returns-then-write-value
returns-then-write-value c =
    let split = IsPartitionPoint-from_clause (is_before c.args.writes.now c.args.key c.args.value) c.args.writes.now c.partition_point-at.result c.partition_point-at.ensures.partitioned
    (before-partitioned c.args.writes.now c.args.key c.args.value c.requires.sorted) (λ a r f k. search rules) in
    let bound = c.partition_point-at.ensures.bound in
    let below : c.partition_point-at.result < length c.args.writes.now = omega arith in
    least-found c.args.writes.now c.args.key c.args.value c.partition_point-at.result split _ below (slice_get-get_or c.args.writes.now c.partition_point-at.result any below)
    c.requires.in_order c.if-write-key.true c.if-write-value.true

pub returns-else-write-key : goal.returns-else-write-key
returns-else-write-key c =
    let split = IsPartitionPoint-from_clause (is_before c.args.writes.now c.args.key c.args.value) c.args.writes.now c.partition_point-at.result c.partition_point-at.ensures.partitioned
    (before-partitioned c.args.writes.now c.args.key c.args.value c.requires.sorted) (λ a r f k. search rules) in
    let bound = c.partition_point-at.ensures.bound in
    let below : c.partition_point-at.result < length c.args.writes.now = omega arith in
    none-found c.args.writes.now c.args.key c.args.value c.partition_point-at.result split _ below (slice_get-get_or c.args.writes.now c.partition_point-at.result any below)
    c.requires.sorted
    (λ same_key same_value. elim c.else-write-key.branch [
      | else-write-key-via-then-write-key+else-write-value w ↦ w.if-write-value.false same_value
      | else-write-key-via-else-write-key w ↦ w.if-write-key.false same_key
    ])
