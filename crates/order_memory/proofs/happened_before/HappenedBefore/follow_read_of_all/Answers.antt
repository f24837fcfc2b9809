use Rattle.std.proofs.Common.{◌≡◌, arith, subst, sym, ⊎_elim}
use Rattle.std.specs.Prelude.{◌≢◌}
use Rattle.std.proofs.lemmas.Bool.{cases_eq}
use Rattle.order_causal.specs.Orders.{op}
use Rattle.order_memory.specs.Steps.GrowthSteps.{NoMore, Waits}
use Rattle.order_memory.specs.Steps.HappenedBefores.{IsReadFollowed}
use Rattle.order_memory.proofs.RelationsMade.{grown-read, grown-sources, grown-then}
use Rattle.order_memory.proofs.Saturating.{grown-same}
use Rattle.order_memory.proofs.happened_before.HappenedBefore.follow_read_of_all.Goals as goal

pub follow_read-requires-clause-sources : goal.follow_read-requires-clause-sources
follow_read-requires-clause-sources c = grown-sources c.args.h.now ⊥ c.args.self.now c.loop-session.self c.loop-session.invariant.grown c.requires.sources

pub loop-session-init : goal.loop-session-init
loop-session-init c = record {
  grown = grown-same c.args.h.now ⊥ c.args.self.now c.requires.well_formed;
  followed = λ u below. absurd (omega arith);
}

pub loop-session-preserved : goal.loop-session-preserved
loop-session-preserved c =
    let h = c.args.h.now in
    let at = c.loop-session.self in
    let new = c.follow_read.new.self in
    record {
      grown = grown-then h ⊥ c.args.self.now at new c.loop-session.invariant.grown c.in_ok-follow_read.ensures.grown;
      followed = λ u below. ⊎_elim
          (λ (last : u ≡ c.loop-session.session).
          subst (λ t. IsReadFollowed h (Waits NoMore new.order) new.order.counts (op new.session c.args.index) t) (sym last) c.in_ok-follow_read.ensures.followed)
          (λ (apart : u ≢ c.loop-session.session).
          grown-read h NoMore at new c.in_ok-follow_read.ensures.grown c.args.index u (c.loop-session.invariant.followed u (omega arith)))
          (cases_eq u c.loop-session.session);
    }

pub returns-clause-followed : goal.returns-clause-followed
returns-clause-followed c = λ u exists.
    let ended = c.loop-session-test.false in
    let sessions = c.sessions-session-end.ensures.count in
    c.loop-session.invariant.followed u (omega arith)
