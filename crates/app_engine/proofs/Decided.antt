-- On distinct values an answer that is true and known says whether a memory history meets the criterion.
use Rattle.std.specs.Prelude.{◌≡◌, ◌↔◌, ⊤}
use Rattle.std.proofs.Common.{refl}
use Rattle.pattern_check.specs.declared.kind.Kind.{Kind}
use Rattle.order_memory.specs.Memory.{MemoryHistory, IsDifferentiated, memory_answer}
use Rattle.cert_check.specs.declared.criterion.Criterion.{Criterion}
use Rattle.cert_check.specs.Criteria.{Meets}
use Rattle.json_histories.specs.declared.any_history.AnyHistory.TheVariants as histories
use Rattle.live_case_board.specs.declared.answer.Answer.{Answer}
use Rattle.live_case_board.specs.declared.answer.Answer.TheVariants.{Yes, No, Unknown, Open}
use Rattle.app_findings.specs.Answers.{IsKnownOnDistinctValues, IsLongTrueOf, IsTrueOf}

module _ (h : MemoryHistory) (criterion : Criterion) where
  -- an answer says whether the history meets the criterion, or nothing
  abbrev pub Says : Answer → Type 0
  Says Yes = Meets memory_answer h criterion
  Says (No kind) = ¬ Meets memory_answer h criterion
  Says (Unknown place) = ⊤
  Says (Open n) = ⊥

  pub says-true : (answer : Answer) → IsTrueOf (histories.Memory h) criterion answer → Says answer
  says-true Yes met = met
  says-true (No kind) excluded = excluded.0.not_met
  says-true (Unknown place) said = said
  says-true (Open n) said = said

  pub says-long_true : (answer : Answer) → IsLongTrueOf (histories.Memory h) criterion answer → Says answer
  says-long_true Yes met = met
  says-long_true (No kind) excluded = excluded.excluded.not_met
  says-long_true (Unknown place) said = said
  says-long_true (Open n) said = said

  module _ (distinct : IsDifferentiated h) where
    pub decided-met : (answer : Answer) → Says answer → IsKnownOnDistinctValues (histories.Memory h) answer
        → answer ≡ Yes ↔ Meets memory_answer h criterion
    decided-met Yes met known = (λ _. met, λ _. refl)
    decided-met (No kind) excluded known = (λ same. absurd cc, λ met. absurd (excluded met))
    decided-met (Unknown place) said known = absurd (known distinct)
    decided-met (Open n) said known = absurd said

    pub decided-excluded : (answer : Answer) → Says answer → IsKnownOnDistinctValues (histories.Memory h) answer
        → ((kind : Kind) × (answer ≡ No kind)) ↔ ¬ Meets memory_answer h criterion
    decided-excluded Yes met known = (λ no. absurd cc, λ unmet. absurd (unmet met))
    decided-excluded (No kind) excluded known = (λ _. excluded, λ _. (kind, refl))
    decided-excluded (Unknown place) said known = absurd (known distinct)
    decided-excluded (Open n) said known = absurd said
