-- What a decision that is neither open nor says that the criterion is met says of it.
use Rattle.std.specs.Prelude.{◌≢◌}
use Rattle.std.proofs.Common.{refl}
use Rattle.order_memory.specs.Memory.{MemoryHistory}
use Rattle.cert_check.specs.declared.criterion.Criterion.{Criterion}
use Rattle.pattern_check.specs.declared.pattern.Pattern.{Pattern}
use Rattle.pattern_check.specs.Kinds.{IsTrueNo}
use Rattle.pattern_check.specs.Patterns.{IsBadPattern, kind_of}
use Rattle.judge_decision.specs.declared.deciding_limited.Decision.{Decision}
use Rattle.judge_decision.specs.declared.deciding_limited.Decision.TheVariants as decisions
use Rattle.judge_decision.specs.Decisions.{IsDecided}
use Rattle.judge_subhistories.specs.WithoutVariables.{IsExclusion}

pub exclusion : (h : MemoryHistory) (criterion : Criterion)
    → ((pattern : Pattern) → IsBadPattern h criterion pattern → IsTrueNo h criterion (kind_of pattern))
    → (d : Decision) → d ≢ decisions.Meets → d ≢ decisions.Open → IsDecided h criterion d → IsExclusion h criterion d
exclusion h criterion law decisions.Meets not_met not_open decided = absurd (not_met refl)
exclusion h criterion law (decisions.Excluded pattern) not_met not_open decided = (decided, (law pattern decided.0).not_met)
exclusion h criterion law (decisions.ExcludedBy kind) not_met not_open decided = (decided, decided.0.not_met)
exclusion h criterion law decisions.Open not_met not_open decided = absurd (not_open refl)
