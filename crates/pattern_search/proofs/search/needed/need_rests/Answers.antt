use Rattle.std.proofs.Common.{◌≡◌, ◌<◌, length, arith, refl, ◌∙◌, false}
use Rattle.std.specs.Prelude.{Some, slice_get}
use Rattle.std.proofs.lemmas.Option.{slice_get_read}
use Rattle.pattern_search.proofs.NeededRaises.{closed-more, closed-skip, marks-none}
use Rattle.pattern_search.proofs.search.needed.need_rests.Goals as goal

pub returns-then-not-index-clause-marks : goal.returns-then-not-index-clause-marks
returns-then-not-index-clause-marks c = marks-none c.args.number c.args.needed.now.items

pub returns-then-not-index-clause-closed : goal.returns-then-not-index-clause-closed
returns-then-not-index-clause-closed c =
    let exists = c.requires.exists in
    let size = c.requires.size in
    let inside : c.args.number < length c.args.needed.now.items = omega arith in
    let there = slice_get_read c.args.needed.now.items (length c.args.needed.now.items) c.args.number c.index.result.now refl inside c.index.ensures in
    let not : slice_get c.args.needed.now.items c.args.number ≡ Some false = there ∙ (λ i. Some (c.if-not-index.true i)) in
    closed-skip c.args.order.now c.args.reasons.now c.args.number c.args.needed.now.items not

pub returns-clause-closed : goal.returns-clause-closed
returns-clause-closed c =
    closed-more c.args.order.now c.args.reasons.now c.args.number c.raise-raise.result c.args.needed.now.items c.need_premises.new.needed.items
    c.raise-raise.ensures c.need_premises.ensures.marks c.need_premises.ensures.marked
