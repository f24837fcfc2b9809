use Rattle.std.proofs.Common.{subst, sym}
use Rattle.model_history.specs.declared.op_id.OpId.{OpId}
use Rattle.order_memory.specs.Relations.{HB}
use Rattle.pattern_search.specs.Steps.Relations.{HasNoCycle}
use Rattle.pattern_search.proofs.SearchedLaws.{cycle-present}
use Rattle.pattern_search.proofs.finding_happened_before.find_cycle.Goals as goal

pub returns-in-None : goal.returns-in-None
returns-in-None c =
    let h = c.args.order.now in
    let o = c.args.relation.now.0 in
    let a = c.in-Some.pair.0 in
    let found = c.in-Some.ensures in
    let many = rw c.in-None.is at c.in_ok-derivation.ensures in
    cycle-present h c.requires.distinct c.args.relation.now c.requires.relation ⊥ (HasNoCycle h o) a (subst (λ (b : OpId). HB h o a b) (sym found.0) found.1) many
