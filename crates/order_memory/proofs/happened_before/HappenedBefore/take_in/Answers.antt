use Rattle.std.proofs.Common.{arith, refl}
use Rattle.order_memory.proofs.RelationsMade.{next-ready, next-outside}
use Rattle.order_memory.proofs.happened_before.HappenedBefore.take_in.Goals as goal

pub take_past-requires-clause-ready : goal.take_past-requires-clause-ready
take_past-requires-clause-ready c = next-ready c.args.h.now c.requires.made.causal c.requires.made.counts c.args.self.now c.requires.made refl c.requires.next c.requires.kept

pub take_past-requires-clause-next : goal.take_past-requires-clause-next
take_past-requires-clause-next c = rw c.at-op.ensures (next-outside c.args.h.now c.requires.made.causal c.requires.made.counts c.args.self.now c.requires.made refl c.requires.next)

pub returns : goal.returns
returns c =
    let next = c.requires.next in
    let before = c.requires.made.well_formed in
    let takes = rw c.at-op.ensures at c.in_ok-take_past.ensures in
    record {
      well_formed = record {
        order = takes.ready.growing;
        exists = before.exists;
        taken = omega arith;
        writes = before.writes;
        by_variable = before.by_variable;
        sources = before.sources;
      };
      past = takes;
      session = refl;
      taken = refl;
    }
