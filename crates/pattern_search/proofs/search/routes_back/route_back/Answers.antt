use Rattle.std.proofs.Common.{◌≡◌, arith}
use Rattle.order_memory.proofs.CausalOrders.{before-fewer}
use Rattle.pattern_search.proofs.RoutesBack.{end-route}
use Rattle.pattern_search.proofs.search.routes_back.route_back.Goals as goal

pub back-smaller : goal.back-smaller
back-smaller c =
    before-fewer c.args.order.now c.vectors-vectors.result.now c.vectors-vectors.ensures c.in_ok-reached.reached c.back.reached c.in_ok-reached.ensures.before

pub back-preserved : goal.back-preserved
back-preserved c = (c.in_ok-reached.ensures.counted, c.in_ok-reached.ensures.route c.args.to c.back.invariant.1)

pub returns : goal.returns
returns c =
    let same : c.back.reached.session ≡ c.args.from.session = omega arith in
    end-route c.args.order.now c.vectors-vectors.result.now c.vectors-vectors.ensures c.args.from c.back.reached c.back.invariant.0 c.args.to
    c.back.ops.items c.push_apart.new.ops.items same c.in_ok-push_apart.ensures c.back.invariant.1
