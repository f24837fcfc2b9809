use Rattle.std.proofs.Common.{[], length, get_or, take, sym, subst, arith, ◌∙◌, ◌≡◌, ℕ, refl}
use borrow.Author.Count.{below_more}
use Rattle.std.proofs.lemmas.Bool.{some_since, both_ways}
use Rattle.std.proofs.lemmas.Option.{MatchOption-at_some, slice_get-get_or}
use Rattle.model_history.specs.History.{calls}
use Rattle.cert_check.specs.Schedules.{named}
use Rattle.cert_check.specs.Steps.Replays.{kept_of, IsAnsweredAt, AreAnswered}
use Rattle.cert_check.proofs.NamingSteps.{named_here}
use Rattle.cert_check.proofs.ReplaySteps.{answered_here, names_next, replayed_on, replayed_whole}
use Rattle.cert_check.proofs.replay.Replay.go_through.Goals as goal

pub name_next-requires-after_bounds : goal.name_next-requires-after_bounds
name_next-requires-after_bounds g c = λ _ _. c.loop-place.invariant.0.counting.width

pub unwrap-next-requires : goal.unwrap-next-requires
unwrap-next-requires g c =
    let i = c.loop-place.place in
    let list = c.args.list.now in
    let here = slice_get-get_or list i 0 c.loop-place-test.true in
    some_since c.name_next.result _ _ c.name_next.ensures.next (λ none. none.0
    (names_next c.args.h.now list c.requires.names i (length c.args.h.now.1) (get_or list i 0) here
    c.loop-place.self.naming.counts.items c.loop-place.invariant.0.counting))

pub returns-then-not-branch-clause-exact : goal.returns-then-not-branch-clause-exact
returns-then-not-branch-clause-exact g c = λ first. (
  (λ e. absurd cc),
  λ all.
      let i = c.loop-place.place in
      let h = c.args.h.now in
      let list = c.args.list.now in
      let here = slice_get-get_or list i 0 c.loop-place-test.true in
      let at = c.loop-place.invariant.0 in
      let next = MatchOption-at_some _ _ c.unwrap-next.result c.unwrap-next.ensures c.name_next.ensures.next in
      let stands = named_here h [] list i (get_or list i 0) here c.loop-place.self.naming.counts.items at.counting c.unwrap-next.result next.0 next.1
      c.name_next.new.self.naming.counts.items next.2 in
      let state = subst (λ object. g.O.SeqObject.stands object h.0 (calls h (take i (named list)))) (sym c.name_next.ensures.object) at.state in
      absurd (both_ways c.in_ok-take_in_kept.field-0 c.if-not-branch.true
      ((c.in_ok-take_in_kept.ensures.answer (take i (named list)) state).1 (all.each i c.loop-place-test.true c.unwrap-next.result stands))),
)

pub loop-place-preserved : goal.loop-place-preserved
loop-place-preserved g c =
    let i = c.loop-place.place in
    let h = c.args.h.now in
    let list = c.args.list.now in
    let here = slice_get-get_or list i 0 c.loop-place-test.true in
    let at = c.loop-place.invariant.0 in
    let next = MatchOption-at_some _ _ c.unwrap-next.result c.unwrap-next.ensures c.name_next.ensures.next in
    let stands = named_here h [] list i (get_or list i 0) here c.loop-place.self.naming.counts.items at.counting c.unwrap-next.result next.0 next.1
    c.name_next.new.self.naming.counts.items next.2 in
    let state = subst (λ object. g.O.SeqObject.stands object h.0 (calls h (take i (named list)))) (sym c.name_next.ensures.object) at.state in
    let answered = (c.in_ok-take_in_kept.ensures.answer (take i (named list)) state).0 c.if-not-branch.false in (
      replayed_on g.O.SeqObject.stands h list i (get_or list i 0) here c.loop-place.self.naming.counts.items at.counting c.unwrap-next.result next.0 next.1
          c.take_in_kept.new.self.naming.counts.items (c.in_ok-take_in_kept.ensures.counts ∙ next.2)
          c.take_in_kept.new.self.object (c.in_ok-take_in_kept.ensures.state (take i (named list)) state),
      λ first. record {
        each = below_more (λ j. IsAnsweredAt g.O.SeqObject.answer h (kept_of c.args.kept) list j) i (c.loop-place.invariant.1 first).each
            (answered_here g.O.SeqObject.answer h (kept_of c.args.kept) list i c.unwrap-next.result stands answered);
      },
    )

pub returns-clause-on : goal.returns-clause-on
returns-clause-on g c = λ _.
    let past = c.loop-place-test.false in
    let within = c.loop-place.auto.place-end c.requires.within in
    replayed_whole g.O.SeqObject.stands c.args.h.now c.args.list.now c.loop-place.place (omega arith)
    c.loop-place.self.naming.counts.items c.loop-place.self.object c.loop-place.invariant.0

pub loop-place-init : goal.loop-place-init
loop-place-init g c = (c.requires.at, λ first. first)

pub returns-clause-exact : goal.returns-clause-exact
returns-clause-exact g c = λ first.
    let most = c.loop-place.auto.place-end c.requires.within in
    let ended : c.loop-place.place ≡ length c.args.list.now = omega arith in (
      (λ _. subst (λ (n : ℕ). AreAnswered g.O.SeqObject.answer c.args.h.now (kept_of c.args.kept) c.args.list.now n) ended (c.loop-place.invariant.1 first)),
      λ _. refl,
    )
