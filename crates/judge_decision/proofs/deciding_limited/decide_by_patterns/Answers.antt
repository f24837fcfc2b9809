use Rattle.std.proofs.Common.{subst}
use Rattle.order_memory.specs.Memory.{MemoryHistory}
use Rattle.order_memory.specs.MemoryHistories.{IsMemoryHistory}
use Rattle.order_memory.proofs.ReadAnswers.{history-fits}
use Rattle.judge_decision.proofs.Completeness.{free-meets}
use Rattle.judge_decision.proofs.deciding_limited.decide_by_patterns.Goals as goal

pub returns-in-None : goal.returns-in-None
returns-in-None c =
    let is_history = subst (λ (h : MemoryHistory). IsMemoryHistory h) c.history.ensures c.value_is_history.ensures in
    free-meets c.args.memory.now (history-fits c.args.memory.now _ is_history) c.requires.distinct c.args.criterion (rw c.in-None.is at c.in_ok-pattern.ensures.exact c.requires.apart)
