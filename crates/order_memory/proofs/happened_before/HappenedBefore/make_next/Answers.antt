use Rattle.order_memory.proofs.RelationsMade.{grown-settled, grown-sources, reads-taken, sources-taken, takes-next, transitive-settled}
use Rattle.order_memory.specs.Steps.GrowthSteps.{NoMore}
use Rattle.order_memory.proofs.happened_before.HappenedBefore.make_next.Goals as goal

pub returns : goal.returns
returns c =
    takes-next c.args.h.now c.args.self c.take_in.new.self c.requires.made c.requires.kept c.requires.next c.in_ok-take_in.ensures
    c.follow_read_of_all.new.self c.in_ok-follow_read_of_all.ensures.grown c.in_ok-follow_read_of_all.ensures.followed
    c.saturate.new.self c.in_ok-saturate.ensures.grown c.in_ok-saturate.ensures.settled c.in_ok-saturate.ensures.reads c.in_ok-saturate.ensures.ended

pub follow_read_of_all-requires-clause-sources : goal.follow_read_of_all-requires-clause-sources
follow_read_of_all-requires-clause-sources c = sources-taken c.args.h.now c.args.self c.take_in.new.self c.requires.made c.requires.kept c.requires.next c.in_ok-take_in.ensures

pub saturate-requires-clause-sources : goal.saturate-requires-clause-sources
saturate-requires-clause-sources c =
    grown-sources c.args.h.now ⊥ c.take_in.new.self c.follow_read_of_all.new.self c.in_ok-follow_read_of_all.ensures.grown
    (sources-taken c.args.h.now c.args.self c.take_in.new.self c.requires.made c.requires.kept c.requires.next c.in_ok-take_in.ensures)

pub saturate-requires-clause-settled : goal.saturate-requires-clause-settled
saturate-requires-clause-settled c =
    grown-settled c.args.h.now NoMore c.take_in.new.self c.follow_read_of_all.new.self c.in_ok-follow_read_of_all.ensures.grown
    (transitive-settled c.args.h.now c.take_in.new.self.order c.in_ok-take_in.ensures.past.ready.transitive)

pub saturate-requires-clause-reads : goal.saturate-requires-clause-reads
saturate-requires-clause-reads c =
    reads-taken c.args.h.now c.args.self c.take_in.new.self c.requires.made c.requires.kept c.requires.next c.in_ok-take_in.ensures
    c.follow_read_of_all.new.self c.in_ok-follow_read_of_all.ensures.grown c.in_ok-follow_read_of_all.ensures.followed
