-- What is read of a value as a certificate.
use Rattle.std.specs.Prelude.{◌≡◌, ◌≢◌, Option, Some, None}
use Rattle.serde_json.specs.Data.{Data}
use Rattle.cert_check.specs.declared.certificate.Certificate.{Certificate}
use Rattle.cert_check.specs.CertificateForm.{form_of, IsCertificate}
use Rattle.pattern_json.specs.declared.found.FoundCertificate.{FoundCertificate}
use Rattle.pattern_json.specs.declared.found.FoundCertificate.TheVariants as found
use Rattle.pattern_json.specs.Shortened.{shortened, IsTooLarge}

-- what is kept of the certificate whose form the value is; or the value is the form of none
abbrev pub IsShortenedIn : Data → Option Certificate → Type 0
IsShortenedIn d (Some kept) = (c : Certificate) × (d ≡ form_of c) × IsCertificate c × (kept ≡ shortened c)
IsShortenedIn d None = (c : Certificate) → IsCertificate c → d ≢ form_of c

-- the certificate whose form the value is, where it is not too large; or the value is the form of one that is; or the form of none
abbrev pub IsFoundIn : Data → FoundCertificate → Type 0
IsFoundIn d (found.Certificate c) = (d ≡ form_of c) × IsCertificate c × ¬ IsTooLarge c
IsFoundIn d found.TooLarge = (c : Certificate) × (d ≡ form_of c) × IsCertificate c × IsTooLarge c
IsFoundIn d found.NoForm = (c : Certificate) → IsCertificate c → d ≢ form_of c
