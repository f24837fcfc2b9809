use Rattle.std.proofs.Common.{◌∙◌, arith, inl, refl, subst, sym}
use Rattle.std.specs.Prelude.{Some}
use Rattle.model_history.specs.declared.op_id.OpId.{OpId}
use Rattle.order_causal.specs.Orders.{op, program_past}
use Rattle.order_memory.specs.Steps.HappenedBefores.{last_of}
use Rattle.order_memory.proofs.FollowedReads.{IsFound, before-last, listed-source_of, no_source-done, none-done, rival-followed, rival-op, rival-ruled, source-done, tested-apart, tested-same}
use Rattle.order_memory.proofs.MemoryLaws.{write-of_history}
use Rattle.order_memory.proofs.Outcomes.{on_ok-one, on_ok-both}
use Rattle.order_memory.proofs.Saturating.{grown-order}
use Rattle.order_memory.proofs.happened_before.HappenedBefore.follow_read.Goals as goal

pub returns-in_default-clause-followed : goal.returns-in_default-clause-followed
returns-in_default-clause-followed c =
    let h = c.args.h.now in
    let self = c.args.self.now in
    let r = op self.session c.args.index in
    let taken = c.requires.well_formed.taken in
    let index = c.requires.index in
    let listed = listed-source_of h self.session _ self.sources.items c.requires.well_formed.sources c.args.index c.index.result.now (omega arith) c.index.ensures in
    inl (no_source-done h self.order.counts r c.args.session (rw c.in_default.is at listed))

pub add_rival-requires-clause-source : goal.add_rival-requires-clause-source
add_rival-requires-clause-source c =
    let h = c.args.h.now in
    let self = c.args.self.now in
    let r = op self.session c.args.index in
    let taken = c.requires.well_formed.taken in
    let index = c.requires.index in
    let listed = listed-source_of h self.session _ self.sources.items c.requires.well_formed.sources c.args.index c.index.result.now (omega arith) c.index.ensures in
    let source = rw c.in-Some.is at listed in
    write-of_history h c.in-Some.source source.0.0 source.0.1 source.0.2

pub add_rival-requires-clause-is_in : goal.add_rival-requires-clause-is_in
add_rival-requires-clause-is_in c =
    let h = c.args.h.now in
    let self = c.args.self.now in
    let r = op self.session c.args.index in
    let taken = c.requires.well_formed.taken in
    let index = c.requires.index in
    let listed = listed-source_of h self.session _ self.sources.items c.requires.well_formed.sources c.args.index c.index.result.now (omega arith) c.index.ensures in
    let source = rw c.in-Some.is at listed in
    c.requires.sources c.args.index c.in-Some.source index source

pub add_rival-requires-clause-write : goal.add_rival-requires-clause-write
add_rival-requires-clause-write c =
    let h = c.args.h.now in
    let self = c.args.self.now in
    let r = op self.session c.args.index in
    let taken = c.requires.well_formed.taken in
    let index = c.requires.index in
    let listed = listed-source_of h self.session _ self.sources.items c.requires.well_formed.sources c.args.index c.index.result.now (omega arith) c.index.ensures in
    let source = rw c.in-Some.is at listed in
    let apart = tested-apart c.in-Some-last_write.write c.in-Some.source (sym c.ne.ensures ∙ c.if-ne.true) in
    rival-op h self.order.counts r c.in-Some.source c.in-Some-last_write.write c.args.session source c.in-Some-last_write.ensures apart

pub returns-in-Some-last_write-clause-grown : goal.returns-in-Some-last_write-clause-grown
returns-in-Some-last_write-clause-grown c =
    let h = c.args.h.now in
    let self = c.args.self.now in
    let r = op self.session c.args.index in
    let taken = c.requires.well_formed.taken in
    let index = c.requires.index in
    let listed = listed-source_of h self.session _ self.sources.items c.requires.well_formed.sources c.args.index c.index.result.now (omega arith) c.index.ensures in
    let source = rw c.in-Some.is at listed in
    let apart = tested-apart c.in-Some-last_write.write c.in-Some.source (sym c.ne.ensures ∙ c.if-ne.true) in
    let kept = program_past (last_of self) in
    let ruled = rival-ruled h self.order.counts r c.in-Some.source c.in-Some-last_write.write c.args.session source c.in-Some-last_write.ensures apart kept
    (before-last h self.session self.taken c.args.index index) in
    on_ok-one c.add_rival.result _ _
    (λ within. grown-order h self _ c.requires.well_formed refl refl refl refl ⊥ within.grows within.past)
    (c.add_rival.ensures.within kept ruled)

pub returns-in-Some-last_write-clause-followed : goal.returns-in-Some-last_write-clause-followed
returns-in-Some-last_write-clause-followed c =
    let h = c.args.h.now in
    let self = c.args.self.now in
    let r = op self.session c.args.index in
    let taken = c.requires.well_formed.taken in
    let index = c.requires.index in
    let listed = listed-source_of h self.session _ self.sources.items c.requires.well_formed.sources c.args.index c.index.result.now (omega arith) c.index.ensures in
    let source = rw c.in-Some.is at listed in
    let apart = tested-apart c.in-Some-last_write.write c.in-Some.source (sym c.ne.ensures ∙ c.if-ne.true) in
    let kept = program_past (last_of self) in
    let ruled = rival-ruled h self.order.counts r c.in-Some.source c.in-Some-last_write.write c.args.session source c.in-Some-last_write.ensures apart kept
    (before-last h self.session self.taken c.args.index index) in
    on_ok-both c.add_rival.result _ _ _
    (λ within counted. rival-followed h self.order.counts r c.in-Some.source c.in-Some-last_write.write c.args.session source c.in-Some-last_write.ensures apart kept
    self.order c.add_rival.new.self refl within.grows counted)
    (c.add_rival.ensures.within kept ruled) c.add_rival.ensures.counted

pub returns-in_default-last_write-clause-followed : goal.returns-in_default-last_write-clause-followed
returns-in_default-last_write-clause-followed c =
    let h = c.args.h.now in
    let self = c.args.self.now in
    let r = op self.session c.args.index in
    let taken = c.requires.well_formed.taken in
    let index = c.requires.index in
    let listed = listed-source_of h self.session _ self.sources.items c.requires.well_formed.sources c.args.index c.index.result.now (omega arith) c.index.ensures in
    let source = rw c.in-Some.is at listed in
    let same = tested-same c.in-Some-last_write.write c.in-Some.source (sym c.ne.ensures ∙ c.if-ne.false) in
    let found = subst (λ (f : OpId). IsFound h self.order.counts r c.args.session (Some f)) same c.in-Some-last_write.ensures in
    inl (source-done h self.order.counts r c.in-Some.source c.args.session source found)

pub returns-in_default-last_write-2-clause-followed : goal.returns-in_default-last_write-2-clause-followed
returns-in_default-last_write-2-clause-followed c =
    let h = c.args.h.now in
    let self = c.args.self.now in
    let r = op self.session c.args.index in
    let taken = c.requires.well_formed.taken in
    let index = c.requires.index in
    let listed = listed-source_of h self.session _ self.sources.items c.requires.well_formed.sources c.args.index c.index.result.now (omega arith) c.index.ensures in
    let source = rw c.in-Some.is at listed in
    inl (none-done h self.order.counts r c.in-Some.source c.args.session source (rw c.in_default-last_write.is at c.last_write.ensures))
