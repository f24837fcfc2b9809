use Rattle.std.proofs.Common.{subst}
use Rattle.judge_memory.specs.Indexed.{Indexed}
use Rattle.judge_memory.specs.Parts.{AreVariables}
use Rattle.judge_memory.proofs.long_index.LongIndex.value_is_indexed.Goals as goal

pub returns-clause-variables : goal.returns-clause-variables
returns-clause-variables c = subst (λ (v : Indexed). AreVariables v.history v.variables) c.self.view_is c.self.invariant.by_key
