use Rattle.std.proofs.Common.{arith}
use Rattle.std.proofs.lemmas.Option.{slice_get-get_or}
use Rattle.order_causal.proofs.WaitsLaws.{alike-trans}
use Rattle.order_memory.proofs.Conflicting.{due-end, due-more, due-other, known-source, read-listed, source-listed, unsourced}
use Rattle.order_memory.proofs.Elements.{listed-at}
use Rattle.order_memory.proofs.conflicts.waits_with_conflicts.Goals as goal
use Rattle.order_memory.proofs.conflicts.waits_with_conflicts.Goals.{in-Some, in_default}

pub add-requires-clause-op : goal.add-requires-clause-op
add-requires-clause-op c =
    let at = slice_get-get_or c.reads-read-items.result.now c.loop-read.read-index _ c.loop-read-test.true in
    let known = c.reads-read-items.ensures.reads.no_other _ (listed-at c.reads-read-items.result.now c.loop-read.read-index _ at) in
    read-listed c.args.order.now c.loop-read.waits c.loop-read.invariant.alike _ known

pub add-requires-clause-other : goal.add-requires-clause-other
add-requires-clause-other c =
    let at = slice_get-get_or c.reads-read-items.result.now c.loop-read.read-index _ c.loop-read-test.true in
    let known = c.reads-read-items.ensures.reads.no_other _ (listed-at c.reads-read-items.result.now c.loop-read.read-index _ at) in
    source-listed c.args.order.now c.loop-read.waits c.loop-read.invariant.alike _ known c.in-Some.source c.in-Some.is

pub add_past_writes-requires-clause-source : goal.add_past_writes-requires-clause-source
add_past_writes-requires-clause-source c =
    let h = c.args.order.now in
    let at = slice_get-get_or c.reads-read-items.result.now c.loop-read.read-index _ c.loop-read-test.true in
    let known = c.reads-read-items.ensures.reads.no_other _ (listed-at c.reads-read-items.result.now c.loop-read.read-index _ at) in
    source-listed h c.add.new.self (alike-trans c.add.new.self c.loop-read.waits h.1 c.add.ensures.alike c.loop-read.invariant.alike) _ known
    c.in-Some.source c.in-Some.is

pub loop-read-preserved : goal.loop-read-preserved
loop-read-preserved c =
    let h = c.args.order.now in
    let reads = c.reads-read-items.result.now in
    let n = c.loop-read.read-index in
    let inv = c.loop-read.invariant in
    let at = slice_get-get_or reads n _ c.loop-read-test.true in
    let known = c.reads-read-items.ensures.reads.no_other _ (listed-at reads n _ at) in
    elim c.match-read.branch [
      | in-Some w ↦
          let between = w.add.new.self in
          let after = w.add_past_writes.new.waits in
          rw w.waits-is (record {
            alike = alike-trans after between h.1 w.add_past_writes.ensures.alike (alike-trans between c.loop-read.waits h.1 w.add.ensures.alike inv.alike);
            so_far = due-more h reads n _ at c.loop-read.waits inv.so_far known w.in-Some.source (known-source h _ known w.in-Some.source w.in-Some.is)
                between after w.add.ensures w.add_past_writes.ensures;
          })
      | in_default w ↦ rw w.waits-is (record {
        alike = inv.alike;
        so_far = due-other h reads n _ at c.loop-read.waits inv.so_far (unsourced h _ known w.in_default.not-Some);
      })
    ]

pub returns-clause-exact : goal.returns-clause-exact
returns-clause-exact c =
    let ended = c.loop-read-test.false in
    due-end c.args.order.now c.reads-read-items.result.now c.loop-read.read-index c.loop-read.waits (omega arith) c.reads-read-items.ensures.reads
    c.loop-read.invariant.so_far
