use Rattle.pattern_search.proofs.KnownCycles.{known-alike, known-exist, cycle-path, acyclic-order}
use Rattle.pattern_search.proofs.search.cycles.cyclic_order.Goals as goal

pub waits_for_sources-requires-clause-alike : goal.waits_for_sources-requires-clause-alike
waits_for_sources-requires-clause-alike c = λ _. known-alike c.args.h.now c.args.sources.now c.requires.sources

pub waits_for_sources-requires-clause-listed : goal.waits_for_sources-requires-clause-listed
waits_for_sources-requires-clause-listed c = λ _. known-exist c.args.h.now c.args.sources.now c.requires.sources

pub returns-in-Order : goal.returns-in-Order
returns-in-Order c =
    let sorted = rw c.in-Order.is at c.in_ok-topological_sort.ensures.sorted in
    acyclic-order c.args.h.now c.args.sources.now c.requires.sources c.in_ok-waits.waits c.in_ok-waits.ensures.alike c.in_ok-waits.ensures.exact
    c.requires.differentiated c.in_ok-topological_sort.ensures.kept sorted.1

pub returns : goal.returns
returns c =
    let sorted = rw c.in-Cycle.is at c.in_ok-topological_sort.ensures.sorted in
    rw c.of.ensures (cycle-path c.args.h.now c.args.sources.now c.requires.sources c.in_ok-waits.waits c.in_ok-waits.ensures.alike c.in_ok-waits.ensures.exact
    c.in-Cycle.ops.items sorted)
