use Rattle.std.proofs.Common.{arith}
use Rattle.order_memory.proofs.IndexedLaws.{ListsIfAnyBelow-push}
use Rattle.order_memory.proofs.found_sources.sources_of_session.Goals as goal

pub loop-index-preserved : goal.loop-index-preserved
loop-index-preserved c =
    let short = c.len-index-end.ensures.short in
    ListsIfAnyBelow-push c.args.h.now c.args.session c.loop-index.index c.loop-index.sources.items _ c.found_source.result
    c.loop-index.invariant (omega arith) (rw c.at-op.ensures at c.found_source.ensures) c.in_ok-push.ensures.items
