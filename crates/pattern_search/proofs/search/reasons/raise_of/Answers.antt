use Rattle.pattern_search.proofs.NeededRaises.{raise-found}
use Rattle.pattern_search.proofs.search.reasons.raise_of.Goals as goal

pub returns : goal.returns
returns c =
    raise-found c.args.order.now c.args.reasons.now c.args.pair c.first.result c.requires
    (λ before. let yes = c.has_before.ensures.before.1 before in let no = c.if-has_before.false in absurd cc) c.first.ensures
