-- What is read of the parts of a certificate.
use Rattle.std.specs.Prelude.{◌≡◌, ◌≢◌, ℕ, ◌^◌, List, [], ◌∷◌, ◌++◌, All, ◌<◌, Option, Some, None, MatchOption}
use Rattle.model_history.specs.declared.limits.TheConstants.{MAX_SESSIONS}
use Rattle.serde_json.specs.Data.{Data, string}
use Rattle.json_histories.specs.Reads.{list_form, number_form}
use Rattle.order_causal.specs.Vectors.{ByOperation}
use Rattle.cert_check.specs.declared.criterion.Criterion.{Criterion}
use Rattle.cert_check.specs.declared.criterion.Criterion.TheVariants as criteria
use Rattle.cert_check.specs.declared.certificate.Certificate.{Certificate}
use Rattle.cert_check.specs.declared.certificate.Certificate.TheVariants.{Cc, Cm, Ccv}
use Rattle.cert_check.specs.CriterionNames.{name_of}
use Rattle.cert_check.specs.Certificates.{criterion_of, vectors_of}
use Rattle.cert_check.specs.CertificateForm.{lists_form, IsCertificate}
use Rattle.pattern_json.specs.declared.explained.Explained.{Explained}
use Rattle.pattern_json.specs.declared.explained.Explained.TheVariants as explained
use Rattle.pattern_json.specs.declared.parts.Parts.{Parts}
use Rattle.pattern_json.specs.declared.parts.Parts.TheVariants as parts
use Rattle.pattern_json.specs.Shortened.{shortened}
use Rattle.pattern_json.specs.Steps.Lists.{IsForm, IsKept}

-- the form of the word of a criterion
abbrev pub word_form : Criterion → Data
word_form criterion = string (name_of criterion)

-- the form of what comes after the vectors of a certificate
abbrev pub explained_form : Certificate → Data
explained_form (Cc vectors schedules) = lists_form schedules
explained_form (Cm vectors schedules) = lists_form schedules
explained_form (Ccv vectors arbitration) = list_form number_form arbitration

-- the forms of the parts of a certificate
abbrev pub parts_form : Certificate → List Data
parts_form c = word_form (criterion_of c) ∷ lists_form (vectors_of c) ∷ explained_form c ∷ []

-- ---- what comes after the vectors

-- numbers below a limit, in the lists of a session
abbrev pub AreRowsBelow : ℕ → List (List ℕ) → Type 0
AreRowsBelow limit = All (All (λ n. n < limit))

abbrev pub rows_form : List (List ℕ) → Data
rows_form = list_form (list_form number_form)

-- the value is the form of lists of numbers below a limit, of which these are kept
abbrev pub AreKeptLists : ℕ → Data → ByOperation ℕ → Type 0
AreKeptLists limit = IsKept (AreRowsBelow limit) rows_form

-- the value is the form of this, for a criterion
abbrev pub Explains : Criterion → Data → Explained → Type 0
Explains criteria.Cc d (explained.Cc schedules) = AreKeptLists MAX_SESSIONS d schedules
Explains criteria.Cm d (explained.Cm schedules) = AreKeptLists MAX_SESSIONS d schedules
Explains criteria.Ccv d (explained.Ccv sessions) = IsForm (All (λ s. s < MAX_SESSIONS)) (list_form number_form) d sessions
Explains _ d _ = ⊥

-- or no certificate for the criterion has it there
abbrev pub IsExplainedIn : Criterion → Data → Option Explained → Type 0
IsExplainedIn criterion d None = (c : Certificate) → IsCertificate c → criterion_of c ≡ criterion → d ≢ explained_form c
IsExplainedIn criterion d (Some e) = Explains criterion d e

abbrev pub certificate_of : ByOperation ℕ → Explained → Certificate
certificate_of vectors (explained.Cc schedules) = Cc vectors schedules
certificate_of vectors (explained.Cm schedules) = Cm vectors schedules
certificate_of vectors (explained.Ccv sessions) = Ccv vectors sessions

-- ---- the parts so far

-- these elements are those of a certificate
abbrev pub AreCertificate : List Data → Certificate → Type 0
AreCertificate ds c = (ds ≡ parts_form c) × IsCertificate c

-- or those of the one that this is kept of
abbrev pub AreShortened : List Data → Certificate → Type 0
AreShortened ds kept = (c : Certificate) × AreCertificate ds c × (kept ≡ shortened c)

-- or of none
abbrev pub AreNoParts : List Data → Type 0
AreNoParts ds = (c : Certificate) → IsCertificate c → ds ≢ parts_form c

-- these elements are the forms of these parts
abbrev pub ArePartsOf : Parts → List Data → Type 0
ArePartsOf parts.Begun ds = ds ≡ []
ArePartsOf (parts.Named criterion) ds = ds ≡ word_form criterion ∷ []
ArePartsOf (parts.Vectors criterion vectors) ds =
    (v : Data) × (ds ≡ word_form criterion ∷ v ∷ []) × AreKeptLists (2 ^ 16) v vectors
ArePartsOf (parts.All certificate) ds = AreShortened ds certificate

-- one element more gives these parts, or no certificate goes on so
abbrev pub IsNextPart : Option Parts → List Data → Data → Type 0
IsNextPart next ds d = MatchOption next ((more : List Data) → AreNoParts (ds ++ d ∷ more)) (λ p. ArePartsOf p (ds ++ d ∷ []))

-- the certificate that the parts of a whole list are
abbrev pub whole_of : Parts → Option Certificate
whole_of parts.Begun = None
whole_of (parts.Named criterion) = None
whole_of (parts.Vectors criterion vectors) = None
whole_of (parts.All certificate) = Some certificate
