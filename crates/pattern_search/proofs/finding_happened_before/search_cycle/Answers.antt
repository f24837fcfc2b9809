use Rattle.pattern_search.specs.Steps.Relations.{HasNoCycleBefore}
use Rattle.pattern_search.proofs.SearchedLaws.{comes-cycle}
use Rattle.pattern_search.proofs.finding_happened_before.search_cycle.Goals as goal

pub returns-in_ok-cyclic-in_default : goal.returns-in_ok-cyclic-in_default
returns-in_ok-cyclic-in_default c = λ most s before.
    let h = c.args.order.now in
    let o = c.args.relation.now.0 in
    let cyclic = c.in_ok-cyclic-in_default in
    rw c.or.ensures (comes-cycle h most (HasNoCycleBefore h s) o c.args.so_far cyclic.cyclic before cyclic.ensures)
