use Rattle.order_memory.proofs.IndexedLaws.{ListsReadsBefore-read}
use Rattle.order_memory.proofs.known_reads.push_read.Goals as goal

pub returns : goal.returns
returns c =
    rw c.in_ok-push.ensures.items
    (ListsReadsBefore-read c.args.h.now c.args.op c.in-Some.read.0 c.in-Some.read.1 c.args.source c.args.reads.now.items c.in-Some.ensures c.requires.source c.requires.so_far)
