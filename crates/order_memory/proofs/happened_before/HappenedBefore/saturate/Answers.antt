use Rattle.std.proofs.Common.{arith, refl}
use Rattle.order_causal.specs.Orders.{program_past}
use Rattle.order_memory.specs.Steps.GrowthSteps.{Always}
use Rattle.order_memory.specs.Steps.HappenedBefores.{last_of}
use Rattle.order_memory.proofs.Raises.{grows-left}
use Rattle.order_memory.proofs.RelationsMade.{grown-free, grown-sources, grown-then}
use Rattle.order_memory.proofs.Saturating.{grown-same, released-grown, released-settled, released-reads, released-left, ended-grown, ended-settled, ended-reads}
use Rattle.order_memory.proofs.happened_before.HappenedBefore.saturate.Goals as goal

pub loop-raised-init : goal.loop-raised-init
loop-raised-init c = record {
  grown = grown-same c.args.h.now Always c.args.self.now c.requires.well_formed;
  settled = c.requires.settled;
  reads = c.requires.reads;
}

pub loop-raised-preserved : goal.loop-raised-preserved
loop-raised-preserved c =
    let h = c.args.h.now in
    let at = c.loop-raised.self in
    let before = c.loop-raised.invariant in
    let released = released-grown h at (record { session = c.loop-raised.self.session; taken = c.loop-raised.self.taken; order = c.next_raised.new.self; writes = c.loop-raised.self.writes; sources = c.loop-raised.self.sources }) before.grown.well_formed refl refl refl refl c.in-Some.raised c.in-Some.ensures in
    record {
      grown = grown-then h Always c.args.self.now at c.follow.new.self before.grown
          (grown-then h Always at (record { session = c.loop-raised.self.session; taken = c.loop-raised.self.taken; order = c.next_raised.new.self; writes = c.loop-raised.self.writes; sources = c.loop-raised.self.sources }) c.follow.new.self released (grown-free h (record { session = c.loop-raised.self.session; taken = c.loop-raised.self.taken; order = c.next_raised.new.self; writes = c.loop-raised.self.writes; sources = c.loop-raised.self.sources }) c.follow.new.self c.in_ok-follow.ensures.grown));
      settled = c.in_ok-follow.ensures.settled;
      reads = c.in_ok-follow.ensures.reads;
    }

pub loop-raised-smaller : goal.loop-raised-smaller
loop-raised-smaller c =
    let h = c.args.h.now in
    let first = released-left h c.loop-raised.self (record { session = c.loop-raised.self.session; taken = c.loop-raised.self.taken; order = c.next_raised.new.self; writes = c.loop-raised.self.writes; sources = c.loop-raised.self.sources }) c.loop-raised.invariant.grown.well_formed refl refl refl refl c.in-Some.raised c.in-Some.ensures in
    let second = grows-left h ⊥ (program_past (last_of (record { session = c.loop-raised.self.session; taken = c.loop-raised.self.taken; order = c.next_raised.new.self; writes = c.loop-raised.self.writes; sources = c.loop-raised.self.sources }))) c.next_raised.new.self c.follow.new.self.order c.in_ok-follow.ensures.grown.order in
    omega arith

pub returns-clause-grown : goal.returns-clause-grown
returns-clause-grown c =
    grown-then c.args.h.now Always c.args.self.now c.loop-raised.self (record { session = c.loop-raised.self.session; taken = c.loop-raised.self.taken; order = c.next_raised.new.self; writes = c.loop-raised.self.writes; sources = c.loop-raised.self.sources }) c.loop-raised.invariant.grown
    (ended-grown c.args.h.now c.loop-raised.self (record { session = c.loop-raised.self.session; taken = c.loop-raised.self.taken; order = c.next_raised.new.self; writes = c.loop-raised.self.writes; sources = c.loop-raised.self.sources }) c.loop-raised.invariant.grown.well_formed refl refl refl refl c.in_default.ensures)

pub returns-clause-settled : goal.returns-clause-settled
returns-clause-settled c =
    ended-settled c.args.h.now c.loop-raised.self (record { session = c.loop-raised.self.session; taken = c.loop-raised.self.taken; order = c.next_raised.new.self; writes = c.loop-raised.self.writes; sources = c.loop-raised.self.sources }) c.loop-raised.invariant.grown.well_formed refl refl refl refl c.in_default.ensures c.loop-raised.invariant.settled

pub returns-clause-reads : goal.returns-clause-reads
returns-clause-reads c =
    ended-reads c.args.h.now c.loop-raised.self (record { session = c.loop-raised.self.session; taken = c.loop-raised.self.taken; order = c.next_raised.new.self; writes = c.loop-raised.self.writes; sources = c.loop-raised.self.sources }) c.loop-raised.invariant.grown.well_formed refl refl refl refl c.in_default.ensures c.loop-raised.invariant.reads

pub returns-clause-ended : goal.returns-clause-ended
returns-clause-ended c = c.in_default.ensures.ended

pub follow-requires-clause-well_formed : goal.follow-requires-clause-well_formed
follow-requires-clause-well_formed c =
    (released-grown c.args.h.now c.loop-raised.self (record { session = c.loop-raised.self.session; taken = c.loop-raised.self.taken; order = c.next_raised.new.self; writes = c.loop-raised.self.writes; sources = c.loop-raised.self.sources }) c.loop-raised.invariant.grown.well_formed refl refl refl refl c.in-Some.raised c.in-Some.ensures).well_formed

pub follow-requires-clause-sources : goal.follow-requires-clause-sources
follow-requires-clause-sources c =
    let h = c.args.h.now in
    grown-sources h Always c.loop-raised.self (record { session = c.loop-raised.self.session; taken = c.loop-raised.self.taken; order = c.next_raised.new.self; writes = c.loop-raised.self.writes; sources = c.loop-raised.self.sources })
    (released-grown h c.loop-raised.self (record { session = c.loop-raised.self.session; taken = c.loop-raised.self.taken; order = c.next_raised.new.self; writes = c.loop-raised.self.writes; sources = c.loop-raised.self.sources }) c.loop-raised.invariant.grown.well_formed refl refl refl refl c.in-Some.raised c.in-Some.ensures)
    (grown-sources h Always c.args.self.now c.loop-raised.self c.loop-raised.invariant.grown c.requires.sources)

pub follow-requires-clause-settled : goal.follow-requires-clause-settled
follow-requires-clause-settled c =
    released-settled c.args.h.now c.loop-raised.self (record { session = c.loop-raised.self.session; taken = c.loop-raised.self.taken; order = c.next_raised.new.self; writes = c.loop-raised.self.writes; sources = c.loop-raised.self.sources }) c.loop-raised.invariant.grown.well_formed refl refl refl refl c.in-Some.raised c.in-Some.ensures c.loop-raised.invariant.settled

pub follow-requires-clause-reads : goal.follow-requires-clause-reads
follow-requires-clause-reads c =
    released-reads c.args.h.now c.loop-raised.self (record { session = c.loop-raised.self.session; taken = c.loop-raised.self.taken; order = c.next_raised.new.self; writes = c.loop-raised.self.writes; sources = c.loop-raised.self.sources }) c.loop-raised.invariant.grown.well_formed refl refl refl refl c.in-Some.raised c.in-Some.ensures c.loop-raised.invariant.reads
