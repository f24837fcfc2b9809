-- What a certificate shows, as it is found and kept.
use Rattle.std.specs.Prelude.{Option, IfSome, Some, None}
use Rattle.json_histories.specs.declared.any_history.AnyHistory.{AnyHistory}
use Rattle.cert_check.specs.declared.certificate.Certificate.{Certificate}
use Rattle.cert_check.specs.declared.criterion.Criterion.{Criterion}
use Rattle.cert_check.specs.CertificateForm.{IsCertificate}
use Rattle.live_case_board.specs.declared.answer.Answer.{Answer}
use Rattle.live_case_board.specs.declared.answer.Answer.TheVariants.{Yes, No, Unknown, Open}
use Rattle.app_findings.specs.declared.finding.Finding.{Finding}
use Rattle.app_findings.specs.declared.finding.Finding.TheVariants.{Met, Shown, Present, Unexplained}
use Rattle.app_findings.specs.declared.kept.Kept.{Kept}
use Rattle.app_findings.specs.declared.kept.Kept.TheVariants as kinds
use Rattle.app_findings.specs.Answers.{IsMet, NamesUnexplained}
use Rattle.app_findings.specs.Findings.{IsCertified, LeavesUnexplained}

-- the copy of a certificate that may be kept
abbrev pub copy_for : Kept → Certificate → Option Certificate
copy_for kinds.Answers certificate = None
copy_for kinds.Patterns certificate = None
copy_for kinds.Reasons certificate = Some certificate
copy_for kinds.Certificates certificate = Some certificate

-- what is kept of that copy where the criterion is met, and where an operation is not explained
abbrev pub kept_of_met : Kept → Option Certificate → Option Certificate
kept_of_met kinds.Certificates certificate = certificate
kept_of_met _ certificate = None

abbrev pub kept_of_unexplained : Kept → Option Certificate → Option Certificate
kept_of_unexplained kinds.Reasons certificate = certificate
kept_of_unexplained _ certificate = None

-- the finding of what is said of a certificate, with what is kept of it; no certificate excludes a criterion, and none is left open
abbrev pub finding_from : Kept → Answer → Option Certificate → Finding
finding_from kept Yes certificate = Met (kept_of_met kept certificate)
finding_from kept (No kind) certificate = Present kind
finding_from kept (Unknown None) certificate = Unexplained None None
finding_from kept (Unknown (Some o)) certificate = Unexplained (Some o) (kept_of_unexplained kept certificate)
finding_from kept (Open n) certificate = Unexplained None None

-- a finding that rests on the pieces of a certificate alone
abbrev pub IsFoundByCertificate : AnyHistory → Criterion → Finding → Type 0
IsFoundByCertificate history criterion (Met certificate) = IsMet history criterion × IfSome certificate (λ c. IsCertified history criterion c × IsCertificate c)
IsFoundByCertificate history criterion (Shown pattern) = ⊥
IsFoundByCertificate history criterion (Present kind) = ⊥
IsFoundByCertificate history criterion (Unexplained place certificate) =
    NamesUnexplained history criterion (Unknown place) × IfSome certificate (LeavesUnexplained history criterion place)
