use Rattle.std.proofs.Common.{length, get_or, refl, arith}
use Rattle.cert_check.proofs.NamingSteps.{back_counted, back_inside, counting_back}
use Rattle.cert_check.proofs.naming.Naming.go_back.Goals as goal

pub count_off-requires-clause-inside : goal.count_off-requires-clause-inside
count_off-requires-clause-inside c =
    let most = c.loop-at.invariant.1 in
    back_inside c.args.list.now c.loop-at.at (length c.args.self.now.counts.items) c.from.result (omega arith) most c.from.ensures
    c.loop-at.self.counts.items c.loop-at.invariant.2

pub count_off-requires-clause-counted : goal.count_off-requires-clause-counted
count_off-requires-clause-counted c =
    back_counted c.args.list.now c.loop-at.at (length c.args.self.now.counts.items) c.from.result (omega arith) c.loop-at.invariant.1 c.from.ensures
    c.loop-at.self.counts.items c.loop-at.invariant.2

pub loop-at-preserved : goal.loop-at-preserved
loop-at-preserved c =
    let most = c.loop-at.invariant.1 in
    let above = c.loop-at-test.true in (
      omega arith,
      omega arith,
      rw (c.count_off.ensures) (counting_back c.args.list.now c.loop-at.at (length c.args.self.now.counts.items) c.from.result (omega arith) most c.from.ensures
          c.loop-at.self.counts.items c.loop-at.invariant.2 (get_or c.loop-at.self.counts.items c.from.result 0) refl),
    )
