use Rattle.std.proofs.Common.{arith, refl, sym, subst₂, ◌<◌, ◌≤◌, length}
use Rattle.std.proofs.lemmas.Bool.{both_ways}
use Rattle.pattern_check.specs.Paths.{AreJoined}
use Rattle.pattern_check.proofs.Neighbours.{related-at, related-end, related-next}
use Rattle.pattern_check.proofs.cycle.are_joined_in_turn.Goals as goal

pub loop-i-preserved : goal.loop-i-preserved
loop-i-preserved c =
    let some : 0 < c.loop-i.i = omega arith in
    related-next AreJoined c.args.links.now c.loop-i.i _ _ some c.loop-i.invariant
    (subst₂ AreJoined c.index-links-i.is c.index-links-i-in-loop-i.is (c.if-not-are_joined.ensures.0 refl))

pub returns : goal.returns
returns c =
    let ended : length c.args.links.now ≤ c.loop-i.i = omega arith in
    (λ _. related-end AreJoined c.args.links.now c.loop-i.i ended c.loop-i.invariant, λ _. refl)

pub loop-i-init : goal.loop-i-init
loop-i-init c = λ k a b below at next. absurd (omega arith)

pub returns-then-not-are_joined : goal.returns-then-not-are_joined
returns-then-not-are_joined c = (
  (λ t. absurd cc),
  λ joined.
      let some : 0 < c.loop-i.i = omega arith in
      let here = related-at AreJoined c.args.links.now c.loop-i.i _ _ some c.loop-i-test.true joined in
      absurd (both_ways c.are_joined.result c.if-not-are_joined.true
      (c.are_joined.ensures.1 (subst₂ AreJoined (sym c.index-links-i.is) (sym c.index-links-i-in-loop-i.is) here))),
)
