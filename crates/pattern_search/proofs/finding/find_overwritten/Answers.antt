use Rattle.pattern_search.proofs.FirstKindLaws.{first-read, first-start}
use Rattle.pattern_search.proofs.finding.find_overwritten.Goals as goal

pub returns-in-Some-clause-kind : goal.returns-in-Some-clause-kind
returns-in-Some-clause-kind c = λ criterion. first-start c.args.order.now c.requires.ordered criterion

pub returns-in-Some-2-clause-kind : goal.returns-in-Some-2-clause-kind
returns-in-Some-2-clause-kind c = λ criterion.
    let start = rw c.in_default.is at c.in_ok-path.ensures.none in
    first-read c.args.order.now c.requires.ordered (start c.requires.differentiated) criterion
