use Rattle.cert_check.proofs.CertificateForms.{one_certificate}
use Rattle.cert_check.proofs.laws.certificates_have_distinct_forms.Goals as goal

pub returns : goal.returns
returns c = one_certificate
