-- Memory histories judged without some of their variables.
use Rattle.std.specs.Prelude.{◌==◌, ℕ, List, not}
use Rattle.std.specs.List.{list_any}
use Rattle.order_memory.specs.Memory.{MemoryHistory, memory_answer}
use Rattle.cert_check.specs.declared.criterion.Criterion.{Criterion}
use Rattle.cert_check.specs.Criteria.{Meets}
use Rattle.cert_subhistories.specs.Parts.{at_keys, part_by}
use Rattle.judge_decision.specs.declared.deciding_limited.Decision.{Decision}
use Rattle.judge_decision.specs.Decisions.{IsDecided}

-- the history without the operations at some variables
abbrev pub without_variables : List ℕ → MemoryHistory → MemoryHistory
without_variables variables h = part_by (at_keys (λ key. not (list_any (λ k. k == key) variables))) h

-- the decision shows that the history does not meet the criterion
abbrev pub IsExclusion : MemoryHistory → Criterion → Decision → Type 0
IsExclusion h criterion decision = IsDecided h criterion decision × ¬ Meets memory_answer h criterion
