-- A certificate that explains each operation is in range.
use Rattle.std.proofs.Common.{◌≡◌, Bool, List, Some, None, Result, Ok, Err, IfOk}
use Rattle.model_history.specs.History.{HistoryValue, IsHistory}
use Rattle.cert_check.specs.declared.certificate.Certificate.{Certificate}
use Rattle.cert_check.specs.CertificateForm.{IsCertificate}
use Rattle.cert_check.specs.Certificates.{HasShapeOf}
use Rattle.cert_check.proofs.Ranges.{explained-in_range}
use Rattle.live_case_board.specs.declared.answer.Answer.{Answer}
use Rattle.live_case_board.specs.declared.answer.Answer.TheVariants.{Yes, No, Unknown, Open}
use Rattle.live_case_answers.specs.Shown.{IsSaidOf}

module _ {S C R : Type 0} (answer : S → List C → C → R) (h : HistoryValue S C R) (is_start : S → Type 0) (fits : C → R → Bool) (limits : IsHistory is_start fits h)
    (certificate : Certificate) (shape : HasShapeOf h certificate) where
  pub said_in_range : (said : Answer) → IsSaidOf answer h certificate said → said ≡ Yes → IsCertificate certificate
  said_in_range Yes shown same = explained-in_range h is_start fits limits answer certificate shape shown
  said_in_range (No kind) shown same = absurd shown
  said_in_range (Unknown place) shown same = absurd cc
  said_in_range (Open n) shown same = absurd shown

  pub all_in_range : {E : Type 0} (r : Result Answer E) → IfOk r (IsSaidOf answer h certificate) → IfOk r (λ said. said ≡ Yes → IsCertificate certificate)
  all_in_range (Ok said) shown = said_in_range said shown
  all_in_range (Err e) shown = tt
