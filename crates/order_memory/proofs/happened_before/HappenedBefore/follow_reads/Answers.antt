use Rattle.std.proofs.Common.{◌≡◌, ◌∙◌, arith, subst, sym, ⊎_elim}
use Rattle.std.specs.Prelude.{◌≢◌}
use Rattle.std.proofs.lemmas.Bool.{cases_eq}
use Rattle.order_causal.specs.Orders.{op}
use Rattle.order_memory.specs.Steps.GrowthSteps.{NoMore, Waits}
use Rattle.order_memory.specs.Steps.HappenedBefores.{IsReadFollowed}
use Rattle.order_memory.proofs.RelationsMade.{grown-read, grown-settled, grown-sources, grown-then}
use Rattle.order_memory.proofs.Saturating.{grown-same, reads-followed}
use Rattle.order_memory.proofs.happened_before.HappenedBefore.follow_reads.Goals as goal

pub follow_read-requires-clause-sources : goal.follow_read-requires-clause-sources
follow_read-requires-clause-sources c = grown-sources c.args.h.now ⊥ c.args.self.now c.loop-index.self c.loop-index.invariant.grown c.requires.sources

pub returns-then-session_place-self-clause-reads : goal.returns-then-session_place-self-clause-reads
returns-then-session_place-self-clause-reads c =
    let apart = c.if-session_place-self.true in
    reads-followed c.args.h.now c.args.self.now c.args.self.now c.args.raised (grown-same c.args.h.now ⊥ c.args.self.now c.requires.well_formed) c.requires.reads
    (λ j here from under below. absurd (apart (c.session_place.ensures ∙ here)))

pub loop-index-init : goal.loop-index-init
loop-index-init c = record {
  grown = grown-same c.args.h.now ⊥ c.args.self.now c.requires.well_formed;
  followed = λ j from below. absurd (omega arith);
}

pub loop-index-preserved : goal.loop-index-preserved
loop-index-preserved c =
    let h = c.args.h.now in
    let at = c.loop-index.self in
    let new = c.follow_read.new.self in
    record {
      grown = grown-then h ⊥ c.args.self.now at new c.loop-index.invariant.grown c.in_ok-follow_read.ensures.grown;
      followed = λ j from below. ⊎_elim
          (λ (last : j ≡ c.loop-index.index).
          subst (λ k. IsReadFollowed h (Waits NoMore new.order) new.order.counts (op new.session k) c.args.raised.session) (sym last) c.in_ok-follow_read.ensures.followed)
          (λ (apart : j ≢ c.loop-index.index).
          grown-read h NoMore at new c.in_ok-follow_read.ensures.grown j c.args.raised.session (c.loop-index.invariant.followed j from (omega arith)))
          (cases_eq j c.loop-index.index);
    }

pub returns-clause-reads : goal.returns-clause-reads
returns-clause-reads c =
    let ended = c.loop-index-test.false in
    let least = c.min-index-end.ensures in
    let taken = c.loop-index.invariant.grown.taken in
    reads-followed c.args.h.now c.args.self.now c.loop-index.self c.args.raised c.loop-index.invariant.grown c.requires.reads
    (λ j here from under below. c.loop-index.invariant.followed j from (omega arith))

pub returns-clause-settled : goal.returns-clause-settled
returns-clause-settled c = grown-settled c.args.h.now NoMore c.args.self.now c.loop-index.self c.loop-index.invariant.grown c.requires.settled
