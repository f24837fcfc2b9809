-- What is found by a certificate is true of its history.
use Rattle.std.proofs.Common.{◌≡◌, Option, Some, None, Result, Ok, Err, IfOk, IfSome, refl, subst}
use Rattle.model_history.specs.declared.op_id.OpId.{OpId}
use Rattle.json_histories.specs.declared.any_history.AnyHistory.{AnyHistory}
use Rattle.cert_check.specs.declared.certificate.Certificate.{Certificate}
use Rattle.cert_check.specs.declared.criterion.Criterion.{Criterion}
use Rattle.cert_check.specs.CertificateForm.{IsCertificate}
use Rattle.cert_check.specs.Certificates.{Certifies, HasShapeOf, IsExplainedThroughout, IsFirstUnexplained, criterion_of}
use Rattle.live_case_board.specs.declared.answer.Answer.{Answer}
use Rattle.live_case_board.specs.declared.answer.Answer.TheVariants.{Yes, No, Unknown, Open}
use Rattle.app_judging.specs.Judgements.{IsUnexplainedOf}
use Rattle.app_findings.specs.declared.finding.Finding.{Finding}
use Rattle.app_findings.specs.declared.finding.Finding.TheVariants.{Met, Shown, Present, Unexplained}
use Rattle.app_findings.specs.declared.kept.Kept.{Kept}
use Rattle.app_findings.specs.declared.kept.Kept.TheVariants as kinds
use Rattle.app_findings.specs.Answers.{HoldsOf, IsMet, IsTrueOf, LacksDistinctValues}
use Rattle.app_findings.specs.Findings.{IsCertified, IsFound, KeepsCertificate, LeavesUnexplained}
use Rattle.app_findings.specs.Pieces.{HasShape, IsShown}
use Rattle.app_findings.specs.Steps.FoundByCertificate.{IsFoundByCertificate, copy_for, finding_from, kept_of_met, kept_of_unexplained}
use Rattle.app_findings.proofs.Holds.{both, follows, never}

-- what is so of a certificate is so of what is kept of it
module _ (certificate : Certificate) (P : Certificate → Type 0) (is : P certificate) where
  met_copy : (kept : Kept) → IfSome (kept_of_met kept (copy_for kept certificate)) P
  met_copy kinds.Answers = tt
  met_copy kinds.Patterns = tt
  met_copy kinds.Reasons = tt
  met_copy kinds.Certificates = is

  unexplained_copy : (kept : Kept) → IfSome (kept_of_unexplained kept (copy_for kept certificate)) P
  unexplained_copy kinds.Answers = tt
  unexplained_copy kinds.Patterns = tt
  unexplained_copy kinds.Reasons = is
  unexplained_copy kinds.Certificates = tt

module _ (history : AnyHistory) (criterion : Criterion) (certificate : Certificate) where
  certified : criterion_of certificate ≡ criterion → HasShape history certificate → IsShown history certificate Yes → IsCertified history criterion certificate
  certified same shape explained =
      follows (λ S C R answer h. HasShapeOf h certificate × IsExplainedThroughout answer h certificate) (λ S C R answer h. Certifies answer h criterion certificate)
      (λ S C R answer h two. (same, two.0, two.1)) history
      (both (λ S C R answer h. HasShapeOf h certificate) (λ S C R answer h. IsExplainedThroughout answer h certificate) history shape explained)

  leaves : (o : OpId) → criterion_of certificate ≡ criterion → HasShape history certificate → IsShown history certificate (Unknown (Some o))
      → LeavesUnexplained history criterion (Some o) certificate
  leaves o same shape shown =
      follows (λ S C R answer h. HasShapeOf h certificate × IsFirstUnexplained answer h certificate o)
      (λ S C R answer h. (criterion_of certificate ≡ criterion) × HasShapeOf h certificate × IsFirstUnexplained answer h certificate o)
      (λ S C R answer h two. (same, two.0, two.1)) history
      (both (λ S C R answer h. HasShapeOf h certificate) (λ S C R answer h. IsFirstUnexplained answer h certificate o) history shape shown)

  pub found_by : (kept : Kept) (said : Answer) → criterion_of certificate ≡ criterion → HasShape history certificate → IsShown history certificate said
      → IsTrueOf history (criterion_of certificate) said → (said ≡ Yes → IsCertificate certificate)
      → IsFoundByCertificate history criterion (finding_from kept said (copy_for kept certificate))
  found_by kept Yes same shape shown met range = (
    subst (λ (k : Criterion). IsMet history k) same met,
    met_copy certificate (λ c. IsCertified history criterion c × IsCertificate c) (certified same shape shown, range refl) kept,
  )
  found_by kept (No kind) same shape shown is range = never history shown
  found_by kept (Unknown None) same shape shown is range = (tt, tt)
  found_by kept (Unknown (Some o)) same shape shown is range =
      let left : LeavesUnexplained history criterion (Some o) certificate = leaves o same shape shown in (
        follows (λ S C R answer h. (criterion_of certificate ≡ criterion) × HasShapeOf h certificate × IsFirstUnexplained answer h certificate o)
            (λ S C R answer h. IsUnexplainedOf answer h criterion o) (λ S C R answer h three. (certificate, three.0, three.1, three.2)) history left,
        unexplained_copy certificate (LeavesUnexplained history criterion (Some o)) left kept,
      )
  found_by kept (Open n) same shape shown is range = (tt, tt)

  pub keeps_by : (kept : Kept) (said : Answer) → kept ≡ kinds.Certificates → KeepsCertificate history criterion (finding_from kept said (copy_for kept certificate))
  keeps_by kinds.Answers said same = absurd cc
  keeps_by kinds.Patterns said same = absurd cc
  keeps_by kinds.Reasons said same = absurd cc
  keeps_by kinds.Certificates Yes same = tt
  keeps_by kinds.Certificates (No kind) same = tt
  keeps_by kinds.Certificates (Unknown None) same = tt
  keeps_by kinds.Certificates (Unknown (Some o)) same = tt
  keeps_by kinds.Certificates (Open n) same = tt

-- what is found by a certificate where values are not distinct
found_open : (kept : Kept) (history : AnyHistory) (criterion : Criterion) (finding : Finding) → LacksDistinctValues history
    → IsFoundByCertificate history criterion finding → (kept ≡ kinds.Certificates → KeepsCertificate history criterion finding)
    → IsFound kept history criterion finding
found_open kept history criterion (Met certificate) lacks found keeps = record { is_finding = found; is_true = found.0; keeps = keeps }
found_open kept history criterion (Shown pattern) lacks found keeps = absurd found
found_open kept history criterion (Present kind) lacks found keeps = absurd found
found_open kept history criterion (Unexplained place certificate) lacks found keeps = record { is_finding = (lacks, found.0, found.1); is_true = tt; keeps = keeps }

pub found_on_open : {E : Type 0} (kept : Kept) (history : AnyHistory) (criterion : Criterion) (r : Result Finding E) → LacksDistinctValues history
    → IfOk r (IsFoundByCertificate history criterion) → (kept ≡ kinds.Certificates → IfOk r (KeepsCertificate history criterion))
    → IfOk r (IsFound kept history criterion)
found_on_open kept history criterion (Ok finding) lacks found keeps = found_open kept history criterion finding lacks found keeps
found_on_open kept history criterion (Err e) lacks found keeps = tt
