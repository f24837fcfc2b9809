-- What a decision on a memory history shows is found so.
use Rattle.std.proofs.Common.{◌≡◌, Option, Some, None, IfSome, refl, subst, sym}
use Rattle.std.specs.Prelude.{◌≢◌, IsSome}
use Rattle.model_history.specs.History.{IsHistory}
use Rattle.order_memory.specs.Memory.{MemoryHistory, memory_answer}
use Rattle.cert_check.specs.declared.certificate.Certificate.{Certificate}
use Rattle.cert_check.specs.declared.criterion.Criterion.{Criterion}
use Rattle.cert_check.specs.declared.criterion.Criterion.TheVariants.{Cc, Cm, Ccv}
use Rattle.cert_check.specs.Certificates.{Certifies}
use Rattle.cert_check.specs.Criteria.{Meets}
use Rattle.cert_check.proofs.Ranges.{explained-in_range}
use Rattle.pattern_check.specs.declared.kind.Kind.{Kind}
use Rattle.pattern_check.specs.declared.kind.Kind.TheVariants.{CyclicHB}
use Rattle.pattern_check.specs.declared.pattern.Pattern.{Pattern}
use Rattle.pattern_check.specs.Kinds.{IsTrueNo}
use Rattle.pattern_check.specs.Patterns.{IsBadPattern, kind_of}
use Rattle.pattern_search.specs.FirstKinds.{ComesFirst}
use Rattle.judge_decision.specs.LongDecisions.{IsLongNo}
use Rattle.json_histories.specs.declared.any_history.AnyHistory.TheVariants as histories
use Rattle.app_findings.specs.declared.finding.Finding.TheVariants.{Met, Shown, Present, Unexplained}
use Rattle.app_findings.specs.declared.kept.Kept.{Kept}
use Rattle.app_findings.specs.declared.kept.Kept.TheVariants.{Answers, Patterns, Certificates}
use Rattle.app_findings.specs.Findings.{IsFound, MayLackCertificate}

module _ (h : MemoryHistory) (criterion : Criterion) where
  -- a criterion that is met, where no certificate is wanted
  pub found_met : (kept : Kept) → kept ≢ Certificates → Meets memory_answer h criterion → IsFound kept (histories.Memory h) criterion (Met None)
  found_met kept unwanted met = record { is_finding = (met, tt); is_true = met; keeps = λ same. absurd (unwanted same) }

  -- a kind that a decision names
  pub found_present : (kept : Kept) (kind : Kind) → IsTrueNo h criterion kind → ComesFirst h criterion kind
      → IsFound kept (histories.Memory h) criterion (Present kind)
  found_present kept kind excluded first = record { is_finding = excluded; is_true = (excluded, first); keeps = λ same. tt }

  pub found_long_no : (kind : Kind) → kind ≢ CyclicHB → IsLongNo h criterion kind → IsFound Answers (histories.Memory h) criterion (Present kind)
  found_long_no kind other named = found_present Answers kind named.excluded (named.first other)

  -- a pattern of the kind of one that comes first
  pub found_shown : (kept : Kept) (pattern first : Pattern) → IsBadPattern h criterion pattern → IsTrueNo h criterion (kind_of pattern)
      → kind_of pattern ≡ kind_of first → ComesFirst h criterion (kind_of first) → IsFound kept (histories.Memory h) criterion (Shown pattern)
  found_shown kept pattern first shown excluded same comes = record {
    is_finding = shown;
    is_true = (excluded, subst (λ (k : Kind). ComesFirst h criterion k) (sym same) comes);
    keeps = λ wanted. tt;
  }

nothing_is_there : (made : Option Certificate) → made ≡ None → IsSome made → ⊥
nothing_is_there (Some certificate) none some = absurd cc
nothing_is_there None none some = absurd cc

-- where no certificate is made for a memory history, it is for causal memory
lacking_is_causal_memory : (h : MemoryHistory) (criterion : Criterion) (made : Option Certificate) → made ≡ None
    → (criterion ≢ Cm → IsSome made) → MayLackCertificate (histories.Memory h) criterion
lacking_is_causal_memory h Cc made none some = absurd (nothing_is_there made none (some (λ same. absurd cc)))
lacking_is_causal_memory h Cm made none some = tt
lacking_is_causal_memory h Ccv made none some = absurd (nothing_is_there made none (some (λ same. absurd cc)))

-- a criterion that is met, with the certificate that was made
pub found_certified : (h : MemoryHistory) (is_start : _) (fits : _) → IsHistory is_start fits h → (criterion : Criterion) (made : Option Certificate)
    → Meets memory_answer h criterion → IfSome made (Certifies memory_answer h criterion) → (criterion ≢ Cm → IsSome made)
    → IsFound Certificates (histories.Memory h) criterion (Met made)
found_certified h is_start fits limits criterion (Some certificate) met certifies some = record {
  is_finding = (met, (certifies, explained-in_range h is_start fits limits memory_answer certificate certifies.1 certifies.2));
  is_true = met;
  keeps = λ wanted. tt;
}
found_certified h is_start fits limits criterion None met certifies some = record {
  is_finding = (met, tt);
  is_true = met;
  keeps = λ wanted. lacking_is_causal_memory h criterion None refl some;
}
