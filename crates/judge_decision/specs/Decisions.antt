-- What a decision says of a memory history and a criterion. (This project's profile.)
use Rattle.std.specs.Prelude.{Some}
use Rattle.pattern_search.specs.declared.search.derivations.TheConstants.{MAX_RAISES}
use Rattle.cert_check.specs.declared.criterion.Criterion.{Criterion}
use Rattle.cert_check.specs.declared.criterion.Criterion.TheVariants.{Cc, Cm, Ccv}
use Rattle.cert_check.specs.Criteria.{Meets}
use Rattle.order_memory.specs.Memory.{MemoryHistory, IsDifferentiated, memory_answer}
use Rattle.pattern_check.specs.Kinds.{IsTrueNo}
use Rattle.pattern_check.specs.Patterns.{IsBadPattern, kind_of}
use Rattle.pattern_search.specs.FirstKinds.{ComesFirst}
use Rattle.pattern_search.specs.Searches.{HasLargeHB}
use Rattle.judge_decision.specs.declared.deciding_limited.Decision.{Decision}
use Rattle.judge_decision.specs.declared.deciding_limited.Decisions.{Decisions}
use Rattle.judge_decision.specs.declared.deciding_limited.Decision.TheVariants as decisions

-- the history meets the criterion, or a pattern excludes it, or a kind does, where some happened-before relation has more than
-- 19,999 pairs that the causal order doesn't have, or values are not distinct; the kind is the first that is against the criterion
-- and present
abbrev pub IsDecided : MemoryHistory → Criterion → Decision → Type 0
IsDecided h criterion decisions.Meets = Meets memory_answer h criterion
IsDecided h criterion (decisions.Excluded pattern) = IsBadPattern h criterion pattern × ComesFirst h criterion (kind_of pattern)
IsDecided h criterion (decisions.ExcludedBy kind) = IsTrueNo h criterion kind × HasLargeHB h (Some MAX_RAISES) × ComesFirst h criterion kind
IsDecided h criterion decisions.Open = ¬ IsDifferentiated h

-- the decision for one criterion
abbrev pub decision_for : Decisions → Criterion → Decision
decision_for all Cc = all.cc
decision_for all Cm = all.cm
decision_for all Ccv = all.ccv
