use Rattle.pattern_search.proofs.DraftLines.{ends-derivation}
use Rattle.pattern_search.proofs.RaisedPairs.{relation-before, relation-grounded}
use Rattle.pattern_search.proofs.search.derivations.derivation_of.Goals as goal

pub write_pair-requires-clause-draft : goal.write_pair-requires-clause-draft
write_pair-requires-clause-draft c = c.new-draft.ensures.draft c.args.order.now c.op.result

pub write_pair-requires-clause-grounded : goal.write_pair-requires-clause-grounded
write_pair-requires-clause-grounded c = rw (c.op.ensures, c.in_ok-reasons.ensures, c.raises.ensures) (relation-grounded c.args.order.now c.requires.distinct c.args.relation.now c.requires.relation)

pub write_pair-requires-clause-premise : goal.write_pair-requires-clause-premise
write_pair-requires-clause-premise c =
    let found = relation-before c.args.order.now c.requires.distinct c.args.relation.now c.requires.relation c.args.pair c.requires.before in
    rw (c.op.ensures, c.in_ok-reasons.ensures, c.raises.ensures) (record { before = found.0; past = found.1 })

pub returns-in-Some : goal.returns-in-Some
returns-in-Some c =
    let ends = rw c.in-Some.is at c.in_ok-write_pair.ensures in
    let made = ends-derivation c.args.order.now c.op.result c.args.pair _ _ ends in
    rw (← c.op.ensures, c.into_derivation.ensures) made

pub returns : goal.returns
returns c =
    let many = rw c.in-None.is at c.in_ok-write_pair.ensures in
    rw (← c.raises.ensures, ← c.in_ok-reasons.ensures) many
