use Rattle.pattern_search.specs.declared.searched.SearchedKinds.{SearchedKinds}
use Rattle.pattern_search.specs.Steps.Relations.{HasNoCycleBefore}
use Rattle.pattern_search.proofs.SearchedLaws.{searched-last, searched-start}
use Rattle.pattern_search.proofs.finding_happened_before.search_relation.Goals as goal

pub returns-then-is_pattern : goal.returns-then-is_pattern
returns-then-is_pattern c = λ most before.
    let h = c.args.order.now in
    let o = c.args.relation.now.0 in
    let kinds : SearchedKinds = record { starts = c.or-starts.result; cycles = c.args.so_far.cycles } in
    searched-start h most o c.requires.relation.relation_of.is_op c.requires.relation.last (HasNoCycleBefore h o.session) c.args.so_far kinds
    c.in_ok-start.start c.or-starts.ensures (c.is_pattern.ensures.0 c.if-is_pattern.true) before c.in_ok-start.ensures

pub returns : goal.returns
returns c = λ most before.
    let h = c.args.order.now in
    let o = c.args.relation.now.0 in
    let kinds : SearchedKinds = record { starts = c.or-starts.result; cycles = c.in_ok-cycles.cycles } in
    searched-last h most o c.requires.relation.relation_of.is_op c.requires.relation.last c.args.so_far kinds
    c.in_ok-start.start c.or-starts.ensures before c.in_ok-start.ensures (c.in_ok-cycles.ensures most o.session)
