use Rattle.std.proofs.Common.{inr, arith}
use Rattle.pattern_search.proofs.NeededRaises.{first-below, marks-set}
use Rattle.pattern_search.proofs.PlacedLists.{set-here}
use Rattle.pattern_search.proofs.search.needed.need.Goals as goal

pub returns-in-Some-clause-marks : goal.returns-in-Some-clause-marks
returns-in-Some-clause-marks c =
    let below = first-below c.args.order.now c.args.reasons.now c.args.number c.args.pair c.in-Some.earlier c.in-Some.ensures.0 c.in-Some.ensures.1 c.requires.before in
    let exists = c.requires.exists in
    let size = c.requires.size in
    marks-set c.args.number c.in-Some.earlier c.args.needed.now.items below (omega arith)

pub returns-in-Some-clause-marked : goal.returns-in-Some-clause-marked
returns-in-Some-clause-marked c =
    let below = first-below c.args.order.now c.args.reasons.now c.args.number c.args.pair c.in-Some.earlier c.in-Some.ensures.0 c.in-Some.ensures.1 c.requires.before in
    let exists = c.requires.exists in
    let size = c.requires.size in
    inr (c.in-Some.earlier, c.in-Some.ensures.1, set-here c.args.needed.now.items c.in-Some.earlier _ (omega arith))
