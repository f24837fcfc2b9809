-- What is kept of a certificate: the lists of as many sessions as a history may have, and of one more. So what is kept of a larger
-- certificate has the shape of no history either.
use Rattle.std.specs.Prelude.{◌⊎◌, ◌+◌, ◌<◌, List, length, take}
use Rattle.model_history.specs.declared.limits.TheConstants.{MAX_SESSIONS}
use Rattle.cert_check.specs.declared.certificate.Certificate.{Certificate}
use Rattle.cert_check.specs.declared.certificate.Certificate.TheVariants.{Cc, Cm, Ccv}

abbrev pub kept_sessions : {A : Type 0} → List A → List A
kept_sessions sessions = take (MAX_SESSIONS + 1) sessions

abbrev pub shortened : Certificate → Certificate
shortened (Cc vectors schedules) = Cc (kept_sessions vectors) (kept_sessions schedules)
shortened (Cm vectors schedules) = Cm (kept_sessions vectors) (kept_sessions schedules)
shortened (Ccv vectors arbitration) = Ccv (kept_sessions vectors) arbitration

-- a certificate with vectors or schedules of more sessions than a history has
abbrev pub IsTooLarge : Certificate → Type 0
IsTooLarge (Cc vectors schedules) = (MAX_SESSIONS < length vectors) ⊎ (MAX_SESSIONS < length schedules)
IsTooLarge (Cm vectors schedules) = (MAX_SESSIONS < length vectors) ⊎ (MAX_SESSIONS < length schedules)
IsTooLarge (Ccv vectors arbitration) = MAX_SESSIONS < length vectors
