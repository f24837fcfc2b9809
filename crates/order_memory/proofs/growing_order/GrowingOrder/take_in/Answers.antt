use Rattle.std.proofs.Common.{arith, ap}
use Rattle.order_causal.specs.Vectors.{Counts, count}
use Rattle.order_memory.proofs.Outcomes.{on_ok-one}
use Rattle.order_memory.proofs.TakenIn.{before-of, source-cause, taken-one}
use Rattle.order_memory.proofs.growing_order.GrowingOrder.take_in.Goals as goal

pub join-requires-2-clause-before : goal.join-requires-2-clause-before
join-requires-2-clause-before c =
    source-cause c.args.h.now c.args.sources.now c.requires.sources c.args.self.now c.requires.ready c.args.op c.requires.is_op c.requires.next c.requires.source
    c.join.new.self
    (λ z.
    let same = ap (λ (v : Counts). count v c.args.op z) c.include.ensures.inclusion.counts in
    let here = c.in_ok-join.ensures.here z in
    omega arith)
    c.source_in.result c.source_in.ensures

pub returns : goal.returns
returns c =
    on_ok-one c.join-2.result _ _
    (λ second. taken-one c.args.h.now c.args.sources.now c.requires.sources c.args.self.now c.requires.ready c.args.op c.requires.is_op c.requires.next c.requires.source
    c.include.new.self c.join.new.self c.join-2.new.self c.include.ensures (rw (before-of c.args.op c.before-2.result c.before-2.ensures) at c.in_ok-join.ensures) (rw c.source_in.ensures at second))
    c.join-2.ensures
