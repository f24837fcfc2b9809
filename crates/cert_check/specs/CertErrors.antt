-- The refusals of a value that is no certificate, and their numbers.
use Rattle.std.specs.Prelude.{ℕ}
use Rattle.cert_check.specs.declared.cert_error.CertError.{CertError}
use Rattle.cert_check.specs.declared.cert_error.CertError.TheVariants.{Memory, BadCertificate}

abbrev pub number_of : CertError → ℕ
number_of Memory = 8
number_of BadCertificate = 20
