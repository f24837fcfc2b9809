-- The JSON form of a certificate: `["cc", vectors, schedules]`, `["cm", vectors, schedules]` or `["ccv", vectors, list]`
-- (this project's profile).
use Rattle.std.specs.Prelude.{◌≡◌, ⊤, ℕ, ◌<◌, ◌^◌, [], ◌∷◌, All, Result, MatchResult}
use Rattle.model_history.specs.declared.limits.TheConstants.{MAX_SESSIONS}
use Rattle.serde_json.specs.Data.{Data}
use Rattle.json_histories.specs.Reads.{number_form, list_form, worded}
use Rattle.order_causal.specs.Vectors.{ByOperation}
use Rattle.cert_check.specs.declared.cert_error.CertError.{CertError}
use Rattle.cert_check.specs.declared.cert_error.CertError.TheVariants.{Memory, BadCertificate}
use Rattle.cert_check.specs.declared.criterion.Criterion.TheVariants as criteria
use Rattle.cert_check.specs.declared.certificate.Certificate.{Certificate}
use Rattle.cert_check.specs.declared.certificate.Certificate.TheVariants.{Cc, Cm, Ccv}
use Rattle.cert_check.specs.CriterionNames.{name_of}

-- a list for each session, in it one list of numbers for each of its operations
abbrev pub lists_form : ByOperation ℕ → Data
lists_form = list_form (list_form (list_form number_form))

-- the form of a certificate
abbrev pub form_of : Certificate → Data
form_of (Cc vectors schedules) = worded (name_of criteria.Cc) (lists_form vectors ∷ lists_form schedules ∷ [])
form_of (Cm vectors schedules) = worded (name_of criteria.Cm) (lists_form vectors ∷ lists_form schedules ∷ [])
form_of (Ccv vectors arbitration) = worded (name_of criteria.Ccv) (lists_form vectors ∷ list_form number_form arbitration ∷ [])

-- numbers below a limit, in each list
abbrev pub AreBelow : ℕ → ByOperation ℕ → Type 0
AreBelow limit = All (All (All (λ n. n < limit)))

-- a certificate, of counts below 2 ^ 16 and session numbers below 16
abbrev pub IsCertificate : Certificate → Type 0
IsCertificate (Cc vectors schedules) = AreBelow (2 ^ 16) vectors × AreBelow MAX_SESSIONS schedules
IsCertificate (Cm vectors schedules) = AreBelow (2 ^ 16) vectors × AreBelow MAX_SESSIONS schedules
IsCertificate (Ccv vectors arbitration) = AreBelow (2 ^ 16) vectors × All (λ s. s < MAX_SESSIONS) arbitration

-- why a value is refused: it is the form of no certificate, or memory ran out
abbrev pub IsRefusedFor : Data → CertError → Type 0
IsRefusedFor d Memory = ⊤
IsRefusedFor d BadCertificate = (c : Certificate) → IsCertificate c → ¬ (d ≡ form_of c)

-- what is read of a value: the certificate whose form it is, or why it is refused
abbrev pub IsReadAs : Data → Result Certificate CertError → Type 0
IsReadAs d read = MatchResult read (λ c. (d ≡ form_of c) × IsCertificate c) (IsRefusedFor d)
