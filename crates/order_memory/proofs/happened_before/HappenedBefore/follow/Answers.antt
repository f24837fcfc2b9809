use Rattle.std.proofs.Common.{◌≡◌, refl}
use Rattle.order_memory.proofs.Outcomes.{on_ok-one}
use Rattle.order_memory.proofs.RelationsMade.{grown-reads, grown-sources, grown-then}
use Rattle.order_memory.proofs.Saturating.{grown-within}
use Rattle.order_memory.proofs.happened_before.HappenedBefore.follow.Goals as goal

pub returns-clause-grown : goal.returns-clause-grown
returns-clause-grown c =
    on_ok-one c.follow_reads.result _ _
    (λ grown. grown-then c.args.h.now ⊥ c.args.self.now _ c.follow_reads.new.self
    (grown-within c.args.h.now c.args.self.now _ c.requires.well_formed refl refl refl refl c.in_ok-follow.ensures.within) grown)
    c.follow_reads.ensures.grown

pub follow_reads-requires-clause-well_formed : goal.follow_reads-requires-clause-well_formed
follow_reads-requires-clause-well_formed c =
    (grown-within c.args.h.now c.args.self.now (record { session = c.args.self.now.session; taken = c.args.self.now.taken; order = c.follow.new.self; writes = c.args.self.now.writes; sources = c.args.self.now.sources })
    c.requires.well_formed refl refl refl refl c.in_ok-follow.ensures.within).well_formed

pub follow_reads-requires-clause-sources : goal.follow_reads-requires-clause-sources
follow_reads-requires-clause-sources c =
    grown-sources c.args.h.now ⊥ c.args.self.now
    (record { session = c.args.self.now.session; taken = c.args.self.now.taken; order = c.follow.new.self; writes = c.args.self.now.writes; sources = c.args.self.now.sources })
    (grown-within c.args.h.now c.args.self.now _ c.requires.well_formed refl refl refl refl c.in_ok-follow.ensures.within) c.requires.sources

pub follow_reads-requires-clause-reads : goal.follow_reads-requires-clause-reads
follow_reads-requires-clause-reads c =
    grown-reads c.args.h.now (λ e. e ≡ c.args.raised) c.args.self.now.taken c.args.self.now
    (record { session = c.args.self.now.session; taken = c.args.self.now.taken; order = c.follow.new.self; writes = c.args.self.now.writes; sources = c.args.self.now.sources })
    (grown-within c.args.h.now c.args.self.now _ c.requires.well_formed refl refl refl refl c.in_ok-follow.ensures.within) c.requires.reads
