use Rattle.std.proofs.lemmas.Result.{on_ok_weaker}
use Rattle.order_memory.proofs.NextVector.{placed-so_far}
use Rattle.order_memory.proofs.placing.place.Goals as goal

pub returns-clause-so_far : goal.returns-clause-so_far
returns-clause-so_far c = on_ok_weaker c.push.result
    (placed-so_far c.args.sources.now c.args.vectors.now c.requires.so_far c.args.session c.requires.ready
    c.operations-index.result c.operations-index.ensures c.get.result.now c.get.ensures c.in_ok-row.row.items c.deref.result.now c.push.new.self
    c.in_ok-row.ensures.counts (rw c.at-op.ensures at c.in_ok-row.ensures.own) (rw c.at-op.ensures at c.in_ok-row.ensures.others)
    c.deref.ensures.value)
    c.push.ensures.ok

pub returns-clause-placed : goal.returns-clause-placed
returns-clause-placed c = on_ok_weaker c.push.result (λ same. (c.deref.result.now, same)) c.push.ensures.ok
