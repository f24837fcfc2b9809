-- What a decision says of a memory history of any length and a criterion. (This project's profile.)
use Rattle.std.specs.Prelude.{◌≡◌, ◌≢◌}
use Rattle.cert_check.specs.declared.criterion.Criterion.{Criterion}
use Rattle.cert_check.specs.declared.criterion.Criterion.TheVariants.{Cc, Cm, Ccv}
use Rattle.cert_check.specs.Criteria.{Meets}
use Rattle.order_memory.specs.Memory.{MemoryHistory, IsDifferentiated, memory_answer}
use Rattle.pattern_check.specs.declared.kind.Kind.{Kind}
use Rattle.pattern_check.specs.declared.kind.Kind.TheVariants.{CyclicHB}
use Rattle.pattern_check.specs.Kinds.{IsFreeOf, IsTrueNo}
use Rattle.pattern_search.specs.FirstKinds.{ComesFirst}
use Rattle.judge_decision.specs.declared.decisions.LongDecision.{LongDecision}
use Rattle.judge_decision.specs.declared.decisions.LongDecision.TheVariants as decisions
use Rattle.judge_decision.specs.declared.decisions.LongDecisions.{LongDecisions}

-- a no names the first kind that is against the criterion and present; one exception: CyclicHB may be named although WriteHBInitRead is
-- present too
pub record IsLongNo (h : MemoryHistory) (criterion : Criterion) (kind : Kind) : Type 0 where
  pub excluded : IsTrueNo h criterion kind
  pub first : kind ≢ CyclicHB → ComesFirst h criterion kind
  pub consistent : kind ≡ CyclicHB → IsFreeOf h Cc

-- the history meets the criterion, or a kind excludes it, or values are not distinct
abbrev pub IsLongDecided : MemoryHistory → Criterion → LongDecision → Type 0
IsLongDecided h criterion decisions.Meets = Meets memory_answer h criterion
IsLongDecided h criterion (decisions.ExcludedBy kind) = IsLongNo h criterion kind
IsLongDecided h criterion decisions.Open = ¬ IsDifferentiated h

-- the decision for one criterion
abbrev pub decision_for : LongDecisions → Criterion → LongDecision
decision_for all Cc = all.cc
decision_for all Cm = all.cm
decision_for all Ccv = all.ccv

-- each is so
abbrev pub AreDecided : MemoryHistory → LongDecisions → Type 0
AreDecided h all = (criterion : Criterion) → IsLongDecided h criterion (decision_for all criterion)
