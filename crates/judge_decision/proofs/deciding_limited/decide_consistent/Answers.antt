use Rattle.std.proofs.Common.{subst}
use Rattle.order_memory.specs.Memory.{MemoryHistory}
use Rattle.order_memory.specs.HappenedBeforePatterns.{HasHBCycle, HasStartOverwrittenInHB}
use Rattle.pattern_search.specs.Searches.{AreSearched}
use Rattle.std.specs.Prelude.{None}
use Rattle.judge_decision.proofs.Decided.{free-ordered}
use Rattle.judge_decision.proofs.deciding_limited.decide_consistent.Goals as goal

pub unreachable-requires : goal.unreachable-requires
unreachable-requires c =
    free-ordered c.args.memory.now c.requires.distinct c.requires.free (rw c.in_default.is at c.order.ensures.order)

pub decision_of-requires-clause-searched : goal.decision_of-requires-clause-searched
decision_of-requires-clause-searched c =
    let same = rw c.in-Some.is at c.order.ensures.order in
    subst (λ (h : MemoryHistory). AreSearched h None (¬ HasStartOverwrittenInHB h) (¬ HasHBCycle h) c.in_ok-searched.searched) same c.in_ok-searched.ensures
