use Rattle.std.proofs.Common.{ℕ, length, subst, ◌≡◌, refl, sym, arith}
use Rattle.std.proofs.lemmas.Option.{slice_get-get_or}
use Rattle.std.proofs.lemmas.Bool.{both_ways}
use borrow.Author.Count.{below_more}
use Rattle.cert_check.specs.Steps.Namings.{AreCountsAt, IsNamedWell, AreNamedWell}
use Rattle.cert_check.proofs.NamingSteps.{counts_in_front, well_in_front}
use Rattle.cert_check.proofs.naming.Naming.go_on.Goals as goal

pub loop-place-init : goal.loop-place-init
loop-place-init g c =
    let before = c.args.before.now in
    let list = c.args.list.now in
    let shared = c.shared_front-shared.result in
    let same = c.shared_front-shared.ensures.same in (
      subst (λ (n : ℕ). AreCountsAt list shared n c.go_back.new.self.counts.items) c.requires.counts.width
          (counts_in_front before list shared same (length c.args.self.now.counts.items) c.go_back.new.self.counts.items c.go_back.ensures),
      well_in_front c.args.h.now c.args.v.now before list shared same c.shared_front-shared.ensures.left c.requires.well,
    )

pub returns-then-not-step-clause-exact : goal.returns-then-not-step-clause-exact
returns-then-not-step-clause-exact g c = (
  (λ e. absurd cc),
  λ well.
      let i = c.loop-place.place in
      let here = slice_get-get_or c.args.list.now i 0 c.loop-place-test.true in
      absurd (both_ways c.step.result c.if-not-step.true
      ((c.step.ensures.exact c.args.list.now i c.loop-place.invariant.0 here c.loop-place.invariant.1).1 (well.each i c.loop-place-test.true))),
)

pub loop-place-preserved : goal.loop-place-preserved
loop-place-preserved g c =
    let i = c.loop-place.place in
    let here = slice_get-get_or c.args.list.now i 0 c.loop-place-test.true in
    let good = (c.step.ensures.exact c.args.list.now i c.loop-place.invariant.0 here c.loop-place.invariant.1).0 c.if-not-step.false in (
      c.step.ensures.on c.args.list.now i c.loop-place.invariant.0 here c.if-not-step.false,
      record { each = below_more (λ j. IsNamedWell c.args.h.now c.args.v.now c.args.list.now j) i c.loop-place.invariant.1.each good },
    )

pub go_back-requires-clause-counts : goal.go_back-requires-clause-counts
go_back-requires-clause-counts g c =
    let counts = c.args.self.now.counts.items in
    subst (λ (n : ℕ). AreCountsAt c.args.before.now (length c.args.before.now) n counts) (sym c.requires.counts.width) c.requires.counts

pub step-requires-clause-width : goal.step-requires-clause-width
step-requires-clause-width g c = λ _ _. c.loop-place.invariant.0.width

pub returns-then-not-step-clause-on : goal.returns-then-not-step-clause-on
returns-then-not-step-clause-on g c = λ e. absurd cc

pub returns-then-not-step-clause-width : goal.returns-then-not-step-clause-width
returns-then-not-step-clause-width g c = c.step.ensures.width

pub returns-clause-exact : goal.returns-clause-exact
returns-clause-exact g c =
    let most = c.loop-place.auto.place-end c.shared_front-shared.ensures.right in
    let ended : c.loop-place.place ≡ length c.args.list.now = omega arith in
    ((λ _. subst (λ (n : ℕ). AreNamedWell c.args.h.now c.args.v.now c.args.list.now n) ended c.loop-place.invariant.1), λ _. refl)

pub returns-clause-on : goal.returns-clause-on
returns-clause-on g c = λ _.
    let most = c.loop-place.auto.place-end c.shared_front-shared.ensures.right in
    let ended : c.loop-place.place ≡ length c.args.list.now = omega arith in
    subst (λ (n : ℕ). AreCountsAt c.args.list.now n (length c.args.h.now.1) c.loop-place.self.counts.items) ended c.loop-place.invariant.0

pub returns-clause-width : goal.returns-clause-width
returns-clause-width g c = c.loop-place.invariant.0.width
