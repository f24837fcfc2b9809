-- What is known of a history and a criterion, and what shows it.
use Rattle.std.specs.Prelude.{◌≡◌, ⊤, Option, IfSome, Some, None}
use Rattle.model_history.specs.declared.op_id.OpId.{OpId}
use Rattle.json_histories.specs.declared.any_history.AnyHistory.{AnyHistory}
use Rattle.json_histories.specs.declared.any_history.AnyHistory.TheVariants as histories
use Rattle.json_histories.specs.AnyForm.{IsAnyHistory}
use Rattle.cert_check.specs.declared.certificate.Certificate.{Certificate}
use Rattle.cert_check.specs.declared.criterion.Criterion.{Criterion}
use Rattle.cert_check.specs.declared.criterion.Criterion.TheVariants.{Cc, Cm, Ccv}
use Rattle.cert_check.specs.CertificateForm.{IsCertificate}
use Rattle.cert_check.specs.Certificates.{Certifies, HasShapeOf, IsFirstUnexplained, criterion_of}
use Rattle.pattern_check.specs.Patterns.{kind_of}
use Rattle.live_case_board.specs.declared.answer.Answer.{Answer}
use Rattle.live_case_board.specs.declared.answer.Answer.TheVariants.{Yes, No, Unknown}
use Rattle.app_findings.specs.declared.finding.Finding.{Finding}
use Rattle.app_findings.specs.declared.finding.Finding.TheVariants.{Met, Shown, Present, Unexplained}
use Rattle.app_findings.specs.declared.finding.Findings.{Findings}
use Rattle.app_findings.specs.declared.kept.Kept.{Kept}
use Rattle.app_findings.specs.declared.kept.Kept.TheVariants.{Certificates}
use Rattle.app_findings.specs.Answers.{HoldsOf, IsExcluded, IsKnownOnDistinctValues, IsLongTrueOf, IsMet, IsPatternOf, IsTrueOf, LacksDistinctValues, NamesUnexplained}

-- the answer that a finding gives
abbrev pub answer_of : Finding → Answer
answer_of (Met certificate) = Yes
answer_of (Shown pattern) = No (kind_of pattern)
answer_of (Present kind) = No kind
answer_of (Unexplained place certificate) = Unknown place

-- the certificate is one of the criterion, has the shape of the history, and every piece of it explains its operation
abbrev pub IsCertified : AnyHistory → Criterion → Certificate → Type 0
IsCertified history criterion certificate = HoldsOf (λ S C R answer h. Certifies answer h criterion certificate) history

-- the operation is the first that the certificate, which is one of the criterion and has the shape of the history, doesn't explain
abbrev pub LeavesUnexplained : AnyHistory → Criterion → Option OpId → Certificate → Type 0
LeavesUnexplained history criterion None certificate = ⊥
LeavesUnexplained history criterion (Some o) certificate =
    HoldsOf (λ S C R answer h. (criterion_of certificate ≡ criterion) × HasShapeOf h certificate × IsFirstUnexplained answer h certificate o) history

-- a finding is one of a history and a criterion: the history meets it, and a certificate that is kept certifies that, and is read back
-- where it is written; or the pattern shows that it does not; or a pattern of the kind, which is present, does; or it is not known. That
-- happens only where values are not distinct. An operation is named only where it is the first that some certificate doesn't explain, and a
-- certificate that is kept is such a one
abbrev pub IsFinding : AnyHistory → Criterion → Finding → Type 0
IsFinding history criterion (Met certificate) = IsMet history criterion × IfSome certificate (λ c. IsCertified history criterion c × IsCertificate c)
IsFinding history criterion (Shown pattern) = IsPatternOf history criterion pattern
IsFinding history criterion (Present kind) = IsExcluded history criterion kind
IsFinding history criterion (Unexplained place certificate) =
    LacksDistinctValues history × NamesUnexplained history criterion (Unknown place) × IfSome certificate (LeavesUnexplained history criterion place)

-- a criterion that is met may be left without a certificate: causal memory of a memory alone
abbrev pub MayLackCertificate : AnyHistory → Criterion → Type 0
MayLackCertificate (histories.Memory h) Cm = ⊤
MayLackCertificate _ criterion = ⊥

-- a criterion that is met is left without a certificate only there
abbrev pub KeepsCertificate : AnyHistory → Criterion → Finding → Type 0
KeepsCertificate history criterion (Met None) = MayLackCertificate history criterion
KeepsCertificate history criterion _ = ⊤

-- what is found of a history: a finding of it, whose answer names the first kind, with the certificates that are wanted
pub record IsFound (kept : Kept) (history : AnyHistory) (criterion : Criterion) (finding : Finding) : Type 0 where
  pub is_finding : IsFinding history criterion finding
  pub is_true : IsTrueOf history criterion (answer_of finding)
  pub keeps : kept ≡ Certificates → KeepsCertificate history criterion finding

-- the finding for a criterion, and its answer
abbrev pub finding_for : Findings → Criterion → Finding
finding_for findings Cc = findings.cc
finding_for findings Cm = findings.cm
finding_for findings Ccv = findings.ccv

abbrev pub answer_for : Findings → Criterion → Answer
answer_for findings criterion = answer_of (finding_for findings criterion)

-- each finding is found so
abbrev pub EachIsFound : Kept → AnyHistory → Findings → Type 0
EachIsFound kept history findings = (criterion : Criterion) → IsFound kept history criterion (finding_for findings criterion)

-- each is one of a history
abbrev pub EachIsFinding : AnyHistory → Findings → Type 0
EachIsFinding history findings = (criterion : Criterion) → IsFinding history criterion (finding_for findings criterion)

-- each has the certificate that may not lack
abbrev pub EachKeepsCertificate : AnyHistory → Findings → Type 0
EachKeepsCertificate history findings = (criterion : Criterion) → KeepsCertificate history criterion (finding_for findings criterion)

-- each answer is true of a history
abbrev pub EachIsTrueOf : AnyHistory → Findings → Type 0
EachIsTrueOf history findings = (criterion : Criterion) → IsTrueOf history criterion (answer_for findings criterion)

-- each answer is true of a history of any length; of one within the limits it is what `judge` may say
pub record EachIsLongTrueOf (history : AnyHistory) (findings : Findings) : Type 0 where
  pub each : (criterion : Criterion) → IsLongTrueOf history criterion (answer_for findings criterion)
  pub within : IsAnyHistory history → EachIsTrueOf history findings

-- each names an operation only where it is the first that a certificate doesn't explain
abbrev pub EachNamesUnexplained : AnyHistory → Findings → Type 0
EachNamesUnexplained history findings = (criterion : Criterion) → NamesUnexplained history criterion (answer_for findings criterion)

-- each is left unknown only where values are not distinct
abbrev pub EachIsKnownOnDistinctValues : AnyHistory → Findings → Type 0
EachIsKnownOnDistinctValues history findings = (criterion : Criterion) → IsKnownOnDistinctValues history (answer_for findings criterion)
