use Rattle.std.proofs.Common.{rules, arith}
use Rattle.std.proofs.lemmas.List.Sorted.{IsPartitionPoint-from_clause}
use Rattle.order_causal.specs.Orders.{op}
use Rattle.order_memory.specs.declared.writes.Write.{Write}
use Rattle.order_memory.proofs.Places.{is_before, before-partitioned, end-none, end-last, end-other}
use Rattle.order_memory.proofs.last_writes.last_write_before.Goals as goal
use Rattle.order_memory.proofs.last_writes.last_write_before.Goals.{else-last-key-via-then-last-key+else-last-end, else-last-key-via-else-last-key}

abbrev any : Write
any = record { op = op 0 0; key = 0; value = 0 }

pub returns-then-at-eq0-clause-last : goal.returns-then-at-eq0-clause-last
returns-then-at-eq0-clause-last c =
    let split = IsPartitionPoint-from_clause (is_before c.args.writes.now c.args.key c.args.end.session c.args.end.index) c.args.writes.now c.partition_point-at.result c.partition_point-at.ensures.partitioned
    (before-partitioned c.args.writes.now c.args.key c.args.end.session c.args.end.index c.requires) (λ a r f k. search rules) in
    end-none c.args.writes.now c.args.key c.args.end.session c.args.end.index c.partition_point-at.result split (omega arith)

pub returns-then-last-end-clause-last : goal.returns-then-last-end-clause-last
returns-then-last-end-clause-last c =
    let split = IsPartitionPoint-from_clause (is_before c.args.writes.now c.args.key c.args.end.session c.args.end.index) c.args.writes.now c.partition_point-at.result c.partition_point-at.ensures.partitioned
    (before-partitioned c.args.writes.now c.args.key c.args.end.session c.args.end.index c.requires) (λ a r f k. search rules) in
    end-last c.args.writes.now c.args.key c.args.end.session c.args.end.index c.partition_point-at.result split any c.requires (omega arith) c.partition_point-at.ensures.bound
    c.if-last-key.true c.if-last-end.true

pub returns-else-last-key-clause-last : goal.returns-else-last-key-clause-last
returns-else-last-key-clause-last c =
    let split = IsPartitionPoint-from_clause (is_before c.args.writes.now c.args.key c.args.end.session c.args.end.index) c.args.writes.now c.partition_point-at.result c.partition_point-at.ensures.partitioned
    (before-partitioned c.args.writes.now c.args.key c.args.end.session c.args.end.index c.requires) (λ a r f k. search rules) in
    end-other c.args.writes.now c.args.key c.args.end.session c.args.end.index c.partition_point-at.result split any c.requires (omega arith) c.partition_point-at.ensures.bound
    (λ same_key same_session. elim c.else-last-key.branch [
      | else-last-key-via-then-last-key+else-last-end w ↦ w.if-last-end.false same_session
      | else-last-key-via-else-last-key w ↦ w.if-last-key.false same_key
    ])
