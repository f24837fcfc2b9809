use Rattle.std.proofs.Common.{arith}
use Rattle.order_memory.proofs.IndexedLaws.{ListsReads-end}
use Rattle.order_memory.proofs.known_reads.known_reads.Goals as goal

pub returns : goal.returns
returns c = ListsReads-end c.args.h.now c.args.sources.now c.requires c.loop-session.session c.loop-session.reads.items (omega arith) c.loop-session.invariant
