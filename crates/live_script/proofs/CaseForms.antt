-- What a case is filed with: the name of a criterion, or a certificate, which is no text.
use Rattle.std.proofs.Common.{◌≡◌, ℕ, List, refl, ap, ◌∙◌}
use Rattle.std.specs.Prelude.{◌≢◌, Some, None}
use Rattle.serde_json.specs.Data.{Data, string}
use Rattle.cert_check.specs.declared.criterion.Criterion.{Criterion}
use Rattle.cert_check.specs.declared.certificate.Certificate.{Certificate}
use Rattle.cert_check.specs.declared.certificate.Certificate.TheVariants.{Cc, Cm, Ccv}
use Rattle.cert_check.specs.Certificates.{criterion_of}
use Rattle.cert_check.specs.CertificateForm.{form_of as certificate_form}
use Rattle.cert_check.specs.CriterionNames.{name_of}
use Rattle.pattern_json.specs.Found.{IsShortenedIn}
use Rattle.pattern_json.specs.Shortened.{shortened}
use Rattle.live_script.specs.Steps.Filing.{IsCaseIn, IsNoText}

no_text : (c : Certificate) (text : List ℕ) → string text ≢ certificate_form c
no_text (Cc vectors schedules) text same = absurd cc
no_text (Cm vectors schedules) text same = absurd cc
no_text (Ccv vectors arbitration) text same = absurd cc

same_criterion : (c : Certificate) → criterion_of (shortened c) ≡ criterion_of c
same_criterion (Cc vectors schedules) = refl
same_criterion (Cm vectors schedules) = refl
same_criterion (Ccv vectors arbitration) = refl

-- a text is the name of a criterion, or is no case
module _ (name : List ℕ) where
  pub named_case : (criterion : Criterion) → name ≡ name_of criterion → IsCaseIn (string name) (Some (criterion, None))
  named_case criterion named = ((criterion, None), ap string named, tt, refl)

  pub no_named_case : ((criterion : Criterion) → name ≢ name_of criterion) → IsCaseIn (string name) None
  no_named_case none (criterion, None) good same = let names : name ≡ name_of criterion = cc in none criterion names
  no_named_case none (criterion, Some certificate) good same = no_text certificate name same

-- what is no text is a certificate, or is no case
module _ (d : Data) (textless : IsNoText d) where
  pub certified_case : (kept : Certificate) → IsShortenedIn d (Some kept) → IsCaseIn d (Some (criterion_of kept, Some kept))
  certified_case kept is = (
    (criterion_of is.0, Some is.0),
    is.1,
    (is.2, refl),
    λ i. ((ap criterion_of is.3 ∙ same_criterion is.0) i, Some (is.3 i)),
  )

  pub no_certified_case : IsShortenedIn d None → IsCaseIn d None
  no_certified_case none (criterion, None) good same = textless (name_of criterion) same
  no_certified_case none (criterion, Some certificate) good same = none certificate good.0 same
