-- What is true of a report on a history within the limits is true of it as one on a history of any length.
use Rattle.std.proofs.Common.{Result, Ok, Err, IfOk, arith, refl, subst}
use Rattle.order_memory.specs.Memory.{MemoryHistory}
use Rattle.pattern_check.specs.Kinds.{IsFreeOf}
use Rattle.pattern_check.specs.declared.kind.Kind.{Kind}
use Rattle.pattern_check.specs.declared.kind.Kind.TheVariants.{CyclicCO, ThinAirRead, WriteCOInitRead, WriteCORead, WriteHBInitRead, CyclicHB, CyclicCF}
use Rattle.cert_check.specs.declared.criterion.Criterion.{Criterion}
use Rattle.cert_check.specs.declared.criterion.Criterion.TheVariants.{Cc}
use Rattle.pattern_search.specs.FirstKinds.{ComesFirst}
use Rattle.live_case_board.specs.declared.answer.Answer.{Answer}
use Rattle.live_case_board.specs.declared.answer.Answer.TheVariants.{Yes, No, Unknown, Open}
use Rattle.json_histories.specs.declared.any_history.AnyHistory.TheVariants as histories
use Rattle.app_findings.specs.declared.finding.Findings.{Findings}
use Rattle.app_findings.specs.declared.kept.Kept.TheVariants.{Answers}
use Rattle.app_findings.specs.Answers.{IsLongTrueOf, IsTrueOf}
use Rattle.app_findings.specs.Findings.{EachIsFound, EachIsLongTrueOf, answer_for}

-- where a cycle of happened-before comes first, no kind against causal consistency is present
first_free : (h : MemoryHistory) (criterion : Criterion) → ComesFirst h criterion CyclicHB → IsFreeOf h Cc
first_free h criterion first CyclicCO against present = first CyclicCO (omega arith) refl present
first_free h criterion first ThinAirRead against present = first ThinAirRead (omega arith) refl present
first_free h criterion first WriteCOInitRead against present = first WriteCOInitRead (omega arith) refl present
first_free h criterion first WriteCORead against present = first WriteCORead (omega arith) refl present
first_free h criterion first WriteHBInitRead against present = absurd cc
first_free h criterion first CyclicHB against present = absurd cc
first_free h criterion first CyclicCF against present = absurd cc

long_true : (h : MemoryHistory) (criterion : Criterion) (answer : Answer) → IsTrueOf (histories.Memory h) criterion answer
    → IsLongTrueOf (histories.Memory h) criterion answer
long_true h criterion Yes is = is
long_true h criterion (No kind) is = record { excluded = is.0; first = λ _. is.1; consistent = λ same. first_free h criterion (subst (λ (k : Kind). ComesFirst h criterion k) same is.1) }
long_true h criterion (Unknown place) is = is
long_true h criterion (Open n) is = is

pub within_true : {E : Type 0} (h : MemoryHistory) (r : Result Findings E) → IfOk r (EachIsFound Answers (histories.Memory h))
    → IfOk r (EachIsLongTrueOf (histories.Memory h))
within_true h (Ok findings) found = record {
  each = λ criterion. long_true h criterion (answer_for findings criterion) (found criterion).is_true;
  within = λ _ criterion. (found criterion).is_true;
}
within_true h (Err e) found = tt
