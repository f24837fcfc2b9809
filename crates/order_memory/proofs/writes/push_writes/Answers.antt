use Rattle.std.proofs.Common.{arith, ap, length}
use Rattle.order_memory.proofs.Listed.{ListsWritesBefore-write, ListsWritesBefore-other, ListsWritesBefore-session, Writes-read, no_write-read}
use Rattle.order_memory.proofs.writes.push_writes.Goals as goal
use Rattle.order_memory.proofs.writes.push_writes.Goals.{in-Write+in_ok-push, in_default}

pub loop-index-preserved : goal.loop-index-preserved
loop-index-preserved c = elim c.match-call.branch [
  | in-Write+in_ok-push w ↦ rw (w.writes-is, w.in_ok-push.ensures.items, w.at-op.ensures)
      (ListsWritesBefore-write c.args.h.now _ _ _ _ _
      (Writes-read c.args.h.now _ c.args.session _ _ c.session-call-items.ensures.operations c.loop-index-test.true _ w.in-Write.is)
      c.loop-index.invariant)
  | in_default w ↦ rw w.writes-is
      (ListsWritesBefore-other c.args.h.now _ _ _
      (no_write-read c.args.h.now _ c.args.session _ _ c.session-call-items.ensures.operations c.loop-index-test.true w.in_default.not-Write)
      c.loop-index.invariant)
]

pub returns : goal.returns
returns c =
    let same = ap length c.session-call-items.ensures.operations in
    ListsWritesBefore-session c.args.h.now c.args.session c.loop-index.index c.loop-index.writes.items (omega arith) c.loop-index.invariant
