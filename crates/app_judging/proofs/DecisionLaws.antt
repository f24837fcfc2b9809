-- What a decision says, and what a decision on a memory history says.
use Rattle.std.specs.Prelude.{◌≡◌, ◌≢◌}
use Rattle.std.proofs.Common.{inl, subst, sym}
use Rattle.pattern_check.specs.declared.kind.Kind.{Kind}
use Rattle.pattern_check.specs.declared.pattern.Pattern.{Pattern}
use Rattle.pattern_check.specs.Kinds.{IsTrueNo}
use Rattle.pattern_check.specs.Patterns.{IsBadPattern, kind_of}
use Rattle.cert_check.specs.declared.criterion.Criterion.{Criterion}
use Rattle.cert_check.specs.Criteria.{Meets}
use Rattle.order_memory.specs.Memory.{MemoryHistory, IsDifferentiated, memory_answer}
use Rattle.pattern_search.specs.FirstKinds.{ComesFirst, ComesFirstOrLarge}
use Rattle.judge_decision.specs.declared.deciding_limited.Decision.{Decision}
use Rattle.judge_decision.specs.declared.deciding_limited.Decision.TheVariants as decisions
use Rattle.judge_decision.specs.Decisions.{IsDecided}
use Rattle.cert_check.specs.declared.criterion.Criterion.TheVariants.{Cc, Cm, Ccv}
use Rattle.app_judging.specs.Decided.{IsDecided as IsExact}
use Rattle.app_judging.specs.NamedKinds.{IfExcluded}

-- what holds of the kind that a decision names, where it has a pattern, and where it has a kind alone
pub at-pattern : (P : Kind → Type 0) (d : Decision) (pattern : Pattern) (kind : Kind) → d ≡ decisions.Excluded pattern → kind ≡ kind_of pattern
    → IfExcluded d P → P kind
at-pattern P d pattern kind is of_pattern holds = subst P (sym of_pattern) (subst (λ (e : Decision). IfExcluded e P) is holds)

pub at-kind : (P : Kind → Type 0) (d : Decision) (kind : Kind) → d ≡ decisions.ExcludedBy kind → IfExcluded d P → P kind
at-kind P d kind is holds = subst (λ (e : Decision). IfExcluded e P) is holds

-- what follows of the kind that a decision names
pub excluded-follows : {P Q : Kind → Type 0} → ((kind : Kind) → P kind → Q kind) → (d : Decision) → IfExcluded d P → IfExcluded d Q
excluded-follows follows decisions.Meets holds = tt
excluded-follows follows (decisions.Excluded pattern) holds = follows (kind_of pattern) holds
excluded-follows follows (decisions.ExcludedBy kind) holds = follows kind holds
excluded-follows follows decisions.Open holds = tt

module _ (h : MemoryHistory) (criterion : Criterion) where
  pub decided-met : (d : Decision) → IsDecided h criterion d → d ≡ decisions.Meets → Meets memory_answer h criterion
  decided-met decisions.Meets decided same = decided
  decided-met (decisions.Excluded pattern) decided same = absurd cc
  decided-met (decisions.ExcludedBy kind) decided same = absurd cc
  decided-met decisions.Open decided same = absurd cc

  pub decided-no : ((pattern : Pattern) → IsBadPattern h criterion pattern → IsTrueNo h criterion (kind_of pattern))
      → (d : Decision) → IsDecided h criterion d → IfExcluded d (IsTrueNo h criterion)
  decided-no law decisions.Meets decided = tt
  decided-no law (decisions.Excluded pattern) decided = law pattern decided.0
  decided-no law (decisions.ExcludedBy kind) decided = decided.0
  decided-no law decisions.Open decided = tt

  pub decided-first : (d : Decision) → IsDecided h criterion d → IfExcluded d (ComesFirst h criterion)
  decided-first decisions.Meets decided = tt
  decided-first (decisions.Excluded pattern) decided = decided.1
  decided-first (decisions.ExcludedBy kind) decided = decided.2
  decided-first decisions.Open decided = tt

  pub decided-resolved : IsDifferentiated h → (d : Decision) → IsDecided h criterion d → d ≢ decisions.Open
  decided-resolved distinct decisions.Meets decided = λ same. absurd cc
  decided-resolved distinct (decisions.Excluded pattern) decided = λ same. absurd cc
  decided-resolved distinct (decisions.ExcludedBy kind) decided = λ same. absurd cc
  decided-resolved distinct decisions.Open decided = absurd (decided distinct)

  pub decided-found : (d : Decision) → IsDecided h criterion d → IfExcluded d (ComesFirstOrLarge h criterion)
  decided-found d decided = excluded-follows (λ (kind : Kind) (first : ComesFirst h criterion kind). inl first) d (decided-first d decided)

-- where the search and the makers are exact, values are distinct
pub exact-distinct : (h : MemoryHistory) (criterion : Criterion) → IsExact h criterion → IsDifferentiated h
exact-distinct h Cc exact = exact
exact-distinct h Cm exact = exact.0
exact-distinct h Ccv exact = exact
