use Rattle.std.proofs.Common.{arith, ap, ◌<◌, length, take}
use Rattle.std.proofs.lemmas.List.{take_more_set}
use Rattle.order_memory.proofs.Listed.{ListsWritesBefore-write, ListsWritesBefore-other, ListsWritesBefore-session, Writes-read, no_write-read}
use Rattle.order_memory.proofs.placed_writes.place_session.Goals as goal
use Rattle.order_memory.proofs.placed_writes.place_session.Goals.{in-Write, in_default}

pub loop-index-preserved : goal.loop-index-preserved
loop-index-preserved c = elim c.match-call.branch [
  | in-Write w ↦ record {
    places = let kept = c.match-call.auto.places in let before = c.loop-index.invariant.places in omega arith;
    within = let more = w.count-is in let before = c.loop-index.invariant.within in omega arith;
    listed =
        let few = c.loop-index.invariant.within in
        let same = c.loop-index.invariant.places in
        let short = c.session-call-items.ensures.is_session.short in
        let inside = c.loop-index-test.true in
        let room = c.requires.room in
        let below : c.loop-index.count < length c.loop-index.places = omega arith in
        rw (w.places-is, w.count-is, take_more_set, w.at-op.ensures)
        (ListsWritesBefore-write c.args.h.now _ _ _ _ _
        (Writes-read c.args.h.now _ c.args.session _ _ c.session-call-items.ensures.operations c.loop-index-test.true _ w.in-Write.is)
        c.loop-index.invariant.listed);
  }
  | in_default w ↦ record {
    places = let kept = c.match-call.auto.places in let before = c.loop-index.invariant.places in omega arith;
    within = let same = w.count-is in let before = c.loop-index.invariant.within in omega arith;
    listed = rw (w.places-is, w.count-is)
        (ListsWritesBefore-other c.args.h.now _ _ _
        (no_write-read c.args.h.now _ c.args.session _ _ c.session-call-items.ensures.operations c.loop-index-test.true w.in_default.not-Write)
        c.loop-index.invariant.listed);
  }
]

pub returns-clause-so_far : goal.returns-clause-so_far
returns-clause-so_far c =
    let same = ap length c.session-call-items.ensures.operations in
    ListsWritesBefore-session c.args.h.now c.args.session c.loop-index.index (take c.loop-index.count c.loop-index.places) (omega arith)
    c.loop-index.invariant.listed
