use Rattle.std.proofs.lemmas.Bool.{both_ways}
use Rattle.live_replica.proofs.Settling.{found_ready, none_ready, none_more}
use Rattle.live_replica.proofs.replica.Replica.first_ready.Goals as goal

pub loop-at-preserved : goal.loop-at-preserved
loop-at-preserved g c =
    none_more c.args.self.now c.held-held.result.now c.loop-at.at c.index-held-at.result c.loop-at-test.true c.index-held-at.is
    (λ ready. both_ways c.is_ready.result c.if-is_ready.false (c.is_ready.ensures.1 ready)) c.loop-at.invariant

pub returns : goal.returns
returns g c = none_ready c.args.self.now c.held-held.result.now c.held-held.ensures c.loop-at.at c.loop-at-test.false c.loop-at.invariant

pub returns-then-is_ready : goal.returns-then-is_ready
returns-then-is_ready g c =
    found_ready c.args.self.now c.held-held.result.now c.held-held.ensures c.loop-at.at c.index-held-at.result c.loop-at-test.true c.index-held-at.is
    (c.is_ready.ensures.0 c.if-is_ready.true) c.loop-at.invariant
