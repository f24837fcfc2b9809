use Rattle.std.proofs.Common.{inl, inr, refl, subst, sym}
use Rattle.std.proofs.lemmas.Option.{get_or_from_slice_get}
use Rattle.order_memory.specs.declared.growing_order.Raise.{Raise}
use Rattle.pattern_search.specs.Steps.Reasons.{Raises}
use Rattle.pattern_search.proofs.search.reasons.nearer.Goals as goal

pub returns-then-is_raising : goal.returns-then-is_raising
returns-then-is_raising c e at =
    let same = get_or_from_slice_get c.args.raises.now c.args.number e _ at in
    inl (subst (λ (d : Raise). Raises d c.args.pair) same (c.is_raising.ensures.0 c.if-is_raising.true), refl)

pub returns-else-is_raising : goal.returns-else-is_raising
returns-else-is_raising c e at =
    let same = get_or_from_slice_get c.args.raises.now c.args.number e _ at in
    inr ((λ is. let yes = c.is_raising.ensures.1 (subst (λ (d : Raise). Raises d c.args.pair) (sym same) is) in let no = c.if-is_raising.false in absurd cc), refl)
