-- What an answer says of a history and a criterion, and when it is true.
use Rattle.std.specs.Prelude.{⊤, List, Some, None}
use Rattle.model_history.specs.declared.op_id.OpId.{OpId}
use Rattle.model_history.specs.History.{HistoryValue}
use Rattle.json_histories.specs.declared.any_history.AnyHistory.{AnyHistory}
use Rattle.json_histories.specs.declared.any_history.AnyHistory.TheVariants as histories
use Rattle.model_objects.specs.Register.{answer as register_answer}
use Rattle.model_objects.specs.Counter.{answer as counter_answer}
use Rattle.model_objects.specs.AddRemoveSet.{answer as set_answer}
use Rattle.model_objects.specs.Queue.{answer as queue_answer}
use Rattle.model_objects.specs.Keyed.{answer as keyed_answer}
use Rattle.order_memory.specs.Memory.{IsDifferentiated, MemoryHistory, memory_answer}
use Rattle.cert_check.specs.declared.criterion.Criterion.{Criterion}
use Rattle.cert_check.specs.Criteria.{Meets}
use Rattle.pattern_check.specs.declared.kind.Kind.{Kind}
use Rattle.pattern_check.specs.declared.pattern.Pattern.{Pattern}
use Rattle.pattern_check.specs.Kinds.{IsTrueNo}
use Rattle.pattern_check.specs.Patterns.{IsBadPattern}
use Rattle.pattern_search.specs.FirstKinds.{ComesFirst}
use Rattle.live_case_board.specs.declared.answer.Answer.{Answer}
use Rattle.live_case_board.specs.declared.answer.Answer.TheVariants.{Yes, No, Unknown, Open}
use Rattle.app_judging.specs.Judgements.{IsUnexplainedOf}
use Rattle.judge_decision.specs.LongDecisions.{IsLongNo}

-- a fact about what an object answers and a history of it
abbrev pub Fact : Type 1
Fact = (S C R : Type 0) → (S → List C → C → R) → HistoryValue S C R → Type 0

-- the fact about a history and what its own object answers
abbrev pub HoldsOf : Fact → AnyHistory → Type 0
HoldsOf fact (histories.Register h) = fact _ _ _ register_answer h
HoldsOf fact (histories.Counter h) = fact _ _ _ counter_answer h
HoldsOf fact (histories.Set h) = fact _ _ _ set_answer h
HoldsOf fact (histories.Queue h) = fact _ _ _ queue_answer h
HoldsOf fact (histories.Memory h) = fact _ _ _ memory_answer h
HoldsOf fact (histories.Counters h) = fact _ _ _ (keyed_answer tt counter_answer) h
HoldsOf fact (histories.Sets h) = fact _ _ _ (keyed_answer tt set_answer) h
HoldsOf fact (histories.Queues h) = fact _ _ _ (keyed_answer tt queue_answer) h

-- the history meets the criterion
abbrev pub IsMet : AnyHistory → Criterion → Type 0
IsMet history criterion = HoldsOf (λ S C R answer h. Meets answer h criterion) history

-- the kind is against the criterion and present, and the history does not meet the criterion
abbrev pub IsExcluded : AnyHistory → Criterion → Kind → Type 0
IsExcluded (histories.Memory h) criterion kind = IsTrueNo h criterion kind
IsExcluded _ criterion kind = ⊥

-- the same, and of the kinds that are against the criterion and present it is the first
abbrev pub IsFirstNo : MemoryHistory → Criterion → Kind → Type 0
IsFirstNo h criterion kind = IsTrueNo h criterion kind × ComesFirst h criterion kind

abbrev pub IsExcludedFirst : AnyHistory → Criterion → Kind → Type 0
IsExcludedFirst (histories.Memory h) criterion kind = IsFirstNo h criterion kind
IsExcludedFirst _ criterion kind = ⊥

-- a pattern shows that a history does not meet a criterion: patterns are known for memories alone
abbrev pub IsPatternOf : AnyHistory → Criterion → Pattern → Type 0
IsPatternOf (histories.Memory h) criterion pattern = IsBadPattern h criterion pattern
IsPatternOf _ criterion pattern = ⊥

-- an answer is true of a history: with a yes it meets the criterion; a no names the first kind that excludes it; unknown says
-- nothing; and none is open
abbrev pub IsTrueOf : AnyHistory → Criterion → Answer → Type 0
IsTrueOf history criterion Yes = IsMet history criterion
IsTrueOf history criterion (No kind) = IsExcludedFirst history criterion kind
IsTrueOf history criterion (Unknown place) = ⊤
IsTrueOf history criterion (Open n) = ⊥

-- the same of a history of any length, of which a no may name a cycle of happened-before where it is not the first
abbrev pub IsLongTrueOf : AnyHistory → Criterion → Answer → Type 0
IsLongTrueOf (histories.Memory h) criterion (No kind) = IsLongNo h criterion kind
IsLongTrueOf history criterion answer = IsTrueOf history criterion answer

-- the operation is the first that some certificate of the criterion and of good shape doesn't explain
abbrev pub IsUnexplained : AnyHistory → Criterion → OpId → Type 0
IsUnexplained history criterion o = HoldsOf (λ S C R answer h. IsUnexplainedOf answer h criterion o) history

-- an operation is named only where it is the first that a certificate doesn't explain
abbrev pub NamesUnexplained : AnyHistory → Criterion → Answer → Type 0
NamesUnexplained history criterion Yes = ⊤
NamesUnexplained history criterion (No kind) = ⊤
NamesUnexplained history criterion (Unknown None) = ⊤
NamesUnexplained history criterion (Unknown (Some o)) = IsUnexplained history criterion o
NamesUnexplained history criterion (Open n) = ⊥

-- the values of a history of a memory are not distinct; other objects have no such values
abbrev pub LacksDistinctValues : AnyHistory → Type 0
LacksDistinctValues (histories.Memory h) = ¬ IsDifferentiated h
LacksDistinctValues _ = ⊤

-- an answer is left unknown only there
abbrev pub IsKnownOnDistinctValues : AnyHistory → Answer → Type 0
IsKnownOnDistinctValues history Yes = ⊤
IsKnownOnDistinctValues history (No kind) = ⊤
IsKnownOnDistinctValues history (Unknown place) = LacksDistinctValues history
IsKnownOnDistinctValues history (Open n) = ⊥
