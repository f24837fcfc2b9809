use Rattle.std.proofs.Common.{inl}
use Rattle.model_history.specs.declared.op_id.OpId.{OpId}
use Rattle.order_memory.specs.Sources.{Comes}
use Rattle.order_memory.proofs.FirstWrites.{sources-exist, counts-order, order-from_steps}
use Rattle.order_memory.proofs.IndexedLaws.{sources-sourced}
use Rattle.order_memory.proofs.SourceWaits.{lists-alike, source-apart}
use Rattle.order_memory.proofs.Outcomes.{one-outcome}
use Rattle.order_memory.proofs.order.order_by_sources.Goals as goal

pub order_of-requires-clause-listed : goal.order_of-requires-clause-listed
order_of-requires-clause-listed c =
    let lists = sources-sourced c.args.h.now c.lacks_source.result c.lacks_source.ensures c.if-lacks_source.false c.args.sources.now c.requires.sources in
    sources-exist c.args.h.now c.args.sources.now lists

pub order_of-requires-clause-alike : goal.order_of-requires-clause-alike
order_of-requires-clause-alike c =
    let lists = sources-sourced c.args.h.now c.lacks_source.result c.lacks_source.ensures c.if-lacks_source.false c.args.sources.now c.requires.sources in
    lists-alike c.args.h.now c.args.sources.now lists

pub order_of-requires-clause-apart : goal.order_of-requires-clause-apart
order_of-requires-clause-apart c =
    let lists = sources-sourced c.args.h.now c.lacks_source.result c.lacks_source.ensures c.if-lacks_source.false c.args.sources.now c.requires.sources in
    source-apart c.args.h.now c.args.sources.now lists

pub returns : goal.returns
returns c =
    let h = c.args.h.now in
    let lists = sources-sourced h c.lacks_source.result c.lacks_source.ensures c.if-lacks_source.false c.args.sources.now c.requires.sources in
    one-outcome c.order_of.result _ _ _ _ _ (λ v so_far finished. counts-order h c.args.sources.now lists v so_far finished)
    (λ (cycle : (a : OpId) × Comes c.args.sources.now a a). inl (cycle.0, order-from_steps h c.args.sources.now lists _ _ cycle.1))
    c.order_of.ensures.exact c.order_of.ensures.finished c.order_of.ensures.cyclic
