use Rattle.pattern_search.proofs.DraftLines.{gives-causal}
use Rattle.pattern_search.proofs.ReadPatterns.{past-from_before}
use Rattle.pattern_search.proofs.search.drafts.Draft.push_causal.Goals as goal

pub returns : goal.returns
returns c =
    let h = c.args.order.now in
    let a = c.args.pair.0 in
    let b = c.args.pair.1 in
    c.push.ensures h c.args.op c.requires.draft
    (gives-causal h c.args.op c.args.self.now.1 c.in_ok-above.above c.in_ok-below.below a b c.requires.apart
    (c.in_ok-above.ensures (past-from_before h a b c.requires.before)) (c.in_ok-below.ensures c.requires.past))
