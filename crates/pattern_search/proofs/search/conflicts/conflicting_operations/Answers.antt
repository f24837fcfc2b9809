use Rattle.pattern_search.proofs.ConflictLinks.{conflict-cycle}
use Rattle.pattern_search.proofs.KnownConflicts.{acyclic-conflicts}
use Rattle.pattern_search.proofs.search.conflicts.conflicting_operations.Goals as goal

pub returns-in-Order : goal.returns-in-Order
returns-in-Order c =
    let sorted = rw c.in-Order.is at c.in_ok-topological_sort.ensures.sorted in
    acyclic-conflicts c.args.order.now c.requires.differentiated c.in_ok-waits.waits
    c.in_ok-topological_sort.ensures.kept c.in_ok-waits.ensures.alike c.in_ok-waits.ensures.exact sorted.1

pub returns : goal.returns
returns c =
    let sorted = rw c.in-Cycle.is at c.in_ok-topological_sort.ensures.sorted in
    conflict-cycle c.args.order.now c.in_ok-waits.waits c.in_ok-waits.ensures.alike c.in_ok-waits.ensures.exact
    c.in-Cycle.ops.items sorted
