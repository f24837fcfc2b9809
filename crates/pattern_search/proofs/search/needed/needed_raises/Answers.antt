use Rattle.std.proofs.Common.{◌≡◌, ℕ, ◌+◌, ◌-◌, subst, arith, ◌∙◌}
use Rattle.pattern_search.specs.Steps.Reasons.{AreClosedFrom}
use Rattle.pattern_search.proofs.search.needed.needed_raises.Goals as goal

pub loop-behind-preserved : goal.loop-behind-preserved
loop-behind-preserved c =
    let inv = c.loop-behind.invariant in
    let marks = c.need_rests.ensures.marks in
    let here : c.args.number + 1 - c.loop-behind.behind ≡ c.args.number - c.loop-behind.behind + 1 = omega arith in
    let next : c.args.number - c.loop-behind.behind ≡ c.args.number + 1 - (c.loop-behind.behind + 1) = omega arith in (
      marks.size ∙ inv.0,
      marks.kept c.args.number inv.1,
      subst (λ (n : ℕ). AreClosedFrom c.args.order.now c.args.reasons.now c.need_rests.new.needed.items n) next
          (c.need_rests.ensures.closed (subst (λ (n : ℕ). AreClosedFrom c.args.order.now c.args.reasons.now c.loop-behind.needed.items n) here inv.2)),
    )

pub need_rests-requires-clause-exists : goal.need_rests-requires-clause-exists
need_rests-requires-clause-exists c = let exists = c.requires.exists in omega arith

pub need_rests-requires-clause-size : goal.need_rests-requires-clause-size
need_rests-requires-clause-size c = c.loop-behind.invariant.0

pub returns-clause-size : goal.returns-clause-size
returns-clause-size c = c.loop-behind.invariant.0

pub returns-clause-chosen : goal.returns-clause-chosen
returns-clause-chosen c = c.loop-behind.invariant.1

pub returns-clause-closed : goal.returns-clause-closed
returns-clause-closed c =
    let ended : c.args.number + 1 - c.loop-behind.behind ≡ 0 = omega arith in
    subst (λ (n : ℕ). AreClosedFrom c.args.order.now c.args.reasons.now c.loop-behind.needed.items n) ended c.loop-behind.invariant.2
