-- What is said of a history and a certificate of it.
use Rattle.std.specs.Prelude.{◌≡◌, ◌≢◌, ℕ, List}
use Rattle.serde_json.specs.Data.{Data}
use Rattle.json_histories.specs.declared.any_history.AnyHistory.{AnyHistory}
use Rattle.json_histories.specs.AnyForm.{form_of, IsAnyHistory, IsJson}
use Rattle.cert_check.specs.declared.certificate.Certificate.{Certificate}
use Rattle.cert_check.specs.Certificates.{criterion_of}
use Rattle.cert_check.specs.CertificateForm.{form_of as certificate_form, IsCertificate}
use Rattle.pattern_json.specs.Pairs.{pair_form, pair_refusal}
use Rattle.app_engine.specs.declared.failure.RunError.{RunError}
use Rattle.app_engine.specs.declared.failure.RunError.TheVariants.{BadCertificate, ShapeMismatch}
use Rattle.app_engine.specs.InputErrors.{IsTextError}
use Rattle.app_findings.specs.Answers.{IsTrueOf}
use Rattle.app_findings.specs.Pieces.{HasShape, IsShown}
use Rattle.app_explanations.specs.Report.{line_for}
use Rattle.live_case_board.specs.declared.answer.Answer.{Answer}

-- a text of a pair of a history's form and another value
abbrev pub IsPair : List ℕ → Data → Data → Type 0
IsPair text history certificate = IsJson text (pair_form history certificate)

-- the first element of a pair is the form of a history, and the second no form of a certificate
abbrev pub HasBadCertificate : Data → Type 0
HasBadCertificate pair =
    (h : AnyHistory) × (d : Data) × IsAnyHistory h × (pair ≡ pair_form (form_of h) d) × ((c : Certificate) → IsCertificate c → d ≢ certificate_form c)

-- after the history of a pair comes no certificate
abbrev pub IsWrongPair : RunError → Data → Type 0
IsWrongPair BadCertificate pair = HasBadCertificate pair
IsWrongPair _ pair = ⊥

-- why a text is refused as a pair of a history and a certificate
abbrev pub IsPairError : List ℕ → RunError → Type 0
IsPairError text error = IsTextError pair_refusal IsWrongPair text error

-- the certificate of a text has another shape than its history
abbrev pub HasOtherShape : List ℕ → Type 0
HasOtherShape text =
    (h : AnyHistory) × (c : Certificate) × IsAnyHistory h × IsCertificate c × IsPair text (form_of h) (certificate_form c) × ¬ HasShape h c

-- why there is no pair to check: the text is refused as one, or its certificate has the shape of no such history
abbrev pub IsUnread : List ℕ → RunError → Type 0
IsUnread text ShapeMismatch = HasOtherShape text
IsUnread text error = IsPairError text error

-- the text answers the pair in the input: it is the line of what the pieces of its certificate show, which is true of its
-- history
pub record IsCheckReport (input text : List ℕ) : Type 0 where
  pub history : AnyHistory
  pub certificate : Certificate
  pub answer : Answer
  pub is_history : IsAnyHistory history
  pub is_certificate : IsCertificate certificate
  pub read : IsPair input (form_of history) (certificate_form certificate)
  pub shape : HasShape history certificate
  pub shown : IsShown history certificate answer
  pub true_of : IsTrueOf history (criterion_of certificate) answer
  pub line : text ≡ line_for (criterion_of certificate) answer
