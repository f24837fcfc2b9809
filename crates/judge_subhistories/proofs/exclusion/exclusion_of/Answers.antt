use Rattle.std.proofs.Common.{refl, subst}
use Rattle.judge_decision.specs.Decisions.{IsDecided}
use Rattle.order_memory.specs.Memory.{MemoryHistory}
use Rattle.judge_subhistories.proofs.Exclusions.{exclusion}
use Rattle.judge_subhistories.proofs.exclusion.exclusion_of.Goals as goal

pub returns-then-is_exclusion : goal.returns-then-is_exclusion
returns-then-is_exclusion c =
    let decision = c.in_ok-decision.decision in
    let of_history = subst (λ (h : MemoryHistory). IsDecided h c.args.criterion decision) c.in_ok-memory.ensures c.in_ok-decision.ensures in
    exclusion c.args.history.now c.args.criterion (c.bad_patterns_exclude_criteria.ensures c.args.history.now c.args.criterion) decision
    (c.if-is_exclusion.ensures.met refl) (c.if-is_exclusion.ensures.open refl) of_history
