use Rattle.std.proofs.Common.{sym, ◌∙◌, Some, None}
use Rattle.order_memory.proofs.CausalOrders.{entering-source}
use Rattle.pattern_search.proofs.RoutesBack.{source-before, source-route}
use Rattle.pattern_search.proofs.search.routes_back.push_source.Goals as goal

pub unreachable-requires : goal.unreachable-requires
unreachable-requires c =
    let first = c.first_counting-first.ensures in
    entering-source c.args.order.now c.args.vectors.now c.requires.order c.args.from c.first_counting-first.result first.counts
    (λ same. c.requires.apart (sym (same ∙ first.session))) first.first None c.in_default.ensures

pub returns-clause-counted : goal.returns-clause-counted
returns-clause-counted c =
    let first = c.first_counting-first.ensures in
    (entering-source c.args.order.now c.args.vectors.now c.requires.order c.args.from c.first_counting-first.result first.counts
    (λ same. c.requires.apart (sym (same ∙ first.session))) first.first (Some c.in-Some.source) c.in-Some.ensures).1

pub returns-clause-before : goal.returns-clause-before
returns-clause-before c =
    source-before c.args.order.now c.args.vectors.now c.requires.order c.args.from c.args.reached c.requires.counted
    c.first_counting-first.result c.in-Some.source c.first_counting-first.ensures c.in-Some.ensures

pub returns-clause-route : goal.returns-clause-route
returns-clause-route c to goes =
    rw c.in_ok-push.ensures.items
    (source-route c.args.order.now c.args.vectors.now c.requires.order c.args.from c.args.reached c.requires.counted
    c.first_counting-first.result c.in-Some.source to c.args.ops.now.items c.push_apart.new.ops.items
    c.first_counting-first.ensures c.in_ok-push_apart.ensures c.in-Some.ensures goes)
