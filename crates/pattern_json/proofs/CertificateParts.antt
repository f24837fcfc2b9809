-- The parts of a certificate, one after the other.
use Rattle.std.proofs.Common.{◌≡◌, ℕ, ◌^◌, ◌<◌, List, [], ◌∷◌, ◌++◌, All, length, true, Some, None, refl, sym, ap, ap₂, subst, ◌∙◌, arith}
use Rattle.std.specs.Prelude.{◌≢◌}
use Rattle.std.proofs.lemmas.List.{length-append}
use Rattle.std.proofs.lemmas.Option.{same_Some}
use Rattle.serde_json.specs.Data.{Data}
use Rattle.json_histories.specs.Json.{elements, list}
use Rattle.json_histories.specs.Laws.Json.{elements-list, list_from_elements}
use Rattle.json_histories.specs.Reads.{IsRead, list_form, number_form}
use Rattle.order_causal.specs.Vectors.{ByOperation}
use Rattle.cert_check.specs.declared.criterion.Criterion.{Criterion}
use Rattle.cert_check.specs.declared.criterion.Criterion.TheVariants as criteria
use Rattle.cert_check.specs.declared.certificate.Certificate.{Certificate}
use Rattle.cert_check.specs.declared.certificate.Certificate.TheVariants.{Cc, Cm, Ccv}
use Rattle.cert_check.specs.CriterionNames.{name_of}
use Rattle.cert_check.specs.Certificates.{criterion_of, vectors_of}
use Rattle.cert_check.specs.CertificateForm.{form_of, lists_form, AreBelow, IsCertificate}
use Rattle.cert_check.proofs.CriterionNames.{one_name}
use Rattle.pattern_json.specs.declared.explained.Explained.{Explained}
use Rattle.pattern_json.specs.declared.explained.Explained.TheVariants as explained
use Rattle.pattern_json.specs.declared.parts.Parts.{Parts}
use Rattle.pattern_json.specs.declared.parts.Parts.TheVariants as parts
use Rattle.pattern_json.specs.Found.{IsShortenedIn}
use Rattle.pattern_json.specs.Steps.Lists.{IsNoForm}
use Rattle.pattern_json.specs.Steps.Parts.{AreKeptLists, AreNoParts, ArePartsOf, AreShortened, Explains, IsExplainedIn, certificate_of, explained_form, parts_form, whole_of, word_form}
use Rattle.pattern_json.proofs.CertificateForms.{IsTakenOf, list_taken}

-- ---- the word

module _ (d : Data) (ds : List Data) (so_far : ds ≡ []) where
  pub no_word : IsRead word_form d None → (more : List Data) (c : Certificate) → IsCertificate c → ds ++ d ∷ more ≢ parts_form c
  no_word none more c good same =
      let all : d ∷ more ≡ parts_form c = ap (λ (es : List Data). es ++ d ∷ more) (sym so_far) ∙ same in
      let word : d ≡ word_form (criterion_of c) = cc in
      none (criterion_of c) word

  pub word_first : (criterion : Criterion) → d ≡ word_form criterion → ArePartsOf (parts.Named criterion) (ds ++ d ∷ [])
  word_first criterion word = ap (λ (es : List Data). es ++ d ∷ []) so_far ∙ ap (λ (x : Data). x ∷ []) word

-- ---- the vectors

pub vectors_next : (criterion : Criterion) (vectors : ByOperation ℕ) (d : Data) (ds : List Data) → ds ≡ word_form criterion ∷ [] → AreKeptLists (2 ^ 16) d vectors
    → ArePartsOf (parts.Vectors criterion vectors) (ds ++ d ∷ [])
vectors_next criterion vectors d ds so_far kept = (d, ap (λ (es : List Data). es ++ d ∷ []) so_far, kept)

has_counts : (c : Certificate) → IsCertificate c → AreBelow (2 ^ 16) (vectors_of c)
has_counts (Cc vectors schedules) good = good.0
has_counts (Cm vectors schedules) good = good.0
has_counts (Ccv vectors arbitration) good = good.0

module _ (criterion : Criterion) (d : Data) (ds more : List Data) where
  pub no_vectors : ds ≡ word_form criterion ∷ [] → IsNoForm (AreBelow (2 ^ 16)) lists_form d → (c : Certificate) → IsCertificate c → ds ++ d ∷ more ≢ parts_form c
  no_vectors so_far none c good same =
      let both : word_form criterion ∷ d ∷ more ≡ parts_form c = ap (λ (es : List Data). es ++ d ∷ more) (sym so_far) ∙ same in
      let vectors : d ≡ lists_form (vectors_of c) = cc in
      none (vectors_of c) (has_counts c good) vectors

  pub no_explained : (v : Data) → ds ≡ word_form criterion ∷ v ∷ [] → IsExplainedIn criterion d None → (c : Certificate) → IsCertificate c → ds ++ d ∷ more ≢ parts_form c
  no_explained v so_far none c good same =
      let all : word_form criterion ∷ v ∷ d ∷ more ≡ parts_form c = ap (λ (es : List Data). es ++ d ∷ more) (sym so_far) ∙ same in
      let words : name_of criterion ≡ name_of (criterion_of c) = cc in
      let explains : d ≡ explained_form c = cc in
      none c good (sym (one_name criterion (criterion_of c) words)) explains

-- ---- what comes after the vectors

module _ (d : Data) where
  pub no_cc_schedules : IsNoForm (AreBelow 16) lists_form d → IsExplainedIn criteria.Cc d None
  no_cc_schedules none (Cc vectors schedules) good kind same = none schedules good.1 same
  no_cc_schedules none (Cm vectors schedules) good kind same = absurd cc
  no_cc_schedules none (Ccv vectors arbitration) good kind same = absurd cc

  pub no_cm_schedules : IsNoForm (AreBelow 16) lists_form d → IsExplainedIn criteria.Cm d None
  no_cm_schedules none (Cc vectors schedules) good kind same = absurd cc
  no_cm_schedules none (Cm vectors schedules) good kind same = none schedules good.1 same
  no_cm_schedules none (Ccv vectors arbitration) good kind same = absurd cc

  pub no_arbitration : IsNoForm (All (λ s. s < 16)) (list_form number_form) d → IsExplainedIn criteria.Ccv d None
  no_arbitration none (Cc vectors schedules) good kind same = absurd cc
  no_arbitration none (Cm vectors schedules) good kind same = absurd cc
  no_arbitration none (Ccv vectors arbitration) good kind same = none arbitration good.1 same

-- all parts together
module _ (v d : Data) where
  three : (criterion : Criterion) (a b : Data) → v ≡ a → d ≡ b → word_form criterion ∷ v ∷ d ∷ [] ≡ word_form criterion ∷ a ∷ b ∷ []
  three criterion a b first second = cc

  abbrev AreAll : Criterion → Certificate → Type 0
  AreAll criterion = AreShortened (word_form criterion ∷ v ∷ d ∷ [])

  all_parts : (criterion : Criterion) (vectors : ByOperation ℕ) (e : Explained) → AreKeptLists (2 ^ 16) v vectors → Explains criterion d e → AreAll criterion (certificate_of vectors e)
  all_parts criteria.Cc vectors (explained.Cc schedules) are is = (
    Cc are.0 is.0,
    (three criteria.Cc (lists_form are.0) (lists_form is.0) are.1.0 is.1.0, (are.1.1, is.1.1)),
    ap₂ Cc are.2 is.2,
  )
  all_parts criteria.Cc vectors (explained.Cm schedules) are is = absurd is
  all_parts criteria.Cc vectors (explained.Ccv sessions) are is = absurd is
  all_parts criteria.Cm vectors (explained.Cc schedules) are is = absurd is
  all_parts criteria.Cm vectors (explained.Cm schedules) are is = (
    Cm are.0 is.0,
    (three criteria.Cm (lists_form are.0) (lists_form is.0) are.1.0 is.1.0, (are.1.1, is.1.1)),
    ap₂ Cm are.2 is.2,
  )
  all_parts criteria.Cm vectors (explained.Ccv sessions) are is = absurd is
  all_parts criteria.Ccv vectors (explained.Cc schedules) are is = absurd is
  all_parts criteria.Ccv vectors (explained.Cm schedules) are is = absurd is
  all_parts criteria.Ccv vectors (explained.Ccv sessions) are is = (
    Ccv are.0 sessions,
    (three criteria.Ccv (lists_form are.0) (list_form number_form sessions) are.1.0 is.0, (are.1.1, is.1)),
    ap (λ (vs : ByOperation ℕ). Ccv vs sessions) are.2,
  )

pub explained_more : (criterion : Criterion) (vectors : ByOperation ℕ) (e : Explained) (ds : List Data) (d : Data) → ArePartsOf (parts.Vectors criterion vectors) ds → Explains criterion d e
    → ArePartsOf (parts.All (certificate_of vectors e)) (ds ++ d ∷ [])
explained_more criterion vectors e ds d so_far explains =
    subst (λ (es : List Data). AreShortened (es ++ d ∷ []) (certificate_of vectors e)) (sym so_far.1) (all_parts so_far.0 d criterion vectors e so_far.2 explains)

-- ---- after the last part

pub no_more_parts : (kept : Certificate) (ds more : List Data) (d : Data) → ArePartsOf (parts.All kept) ds → (c : Certificate) → IsCertificate c → ds ++ d ∷ more ≢ parts_form c
no_more_parts kept ds more d are c good same =
    let many : length ds ≡ 3 = ap length are.1.0 in
    let more_than : length (ds ++ d ∷ more) ≡ 3 = ap length same in
    absurd (omega (arith, length-append ds (d ∷ more)))

-- ---- the whole list

form_is_list : (c : Certificate) → form_of c ≡ list (parts_form c)
form_is_list (Cc vectors schedules) = refl
form_is_list (Cm vectors schedules) = refl
form_is_list (Ccv vectors arbitration) = refl

module _ (d : Data) (ds : List Data) (has : elements d ≡ Some ds) where
  no_form : ((c : Certificate) → ds ≢ parts_form c) → (c : Certificate) → IsCertificate c → d ≢ form_of c
  no_form none c good same =
      none c (same_Some ds (parts_form c) (sym has ∙ ap elements (same ∙ form_is_list c) ∙ elements-list (parts_form c)))

  of_parts : (c : Certificate) → ds ≡ parts_form c → d ≡ form_of c
  of_parts c are = list_from_elements d ds has ∙ ap list are ∙ sym (form_is_list c)

  found : (p : Parts) → ArePartsOf p ds → IsShortenedIn d (whole_of p)
  found parts.Begun are = no_form (λ c same. let no : [] ≡ parts_form c = sym are ∙ same in absurd cc)
  found (parts.Named criterion) are = no_form (λ c same. let no : word_form criterion ∷ [] ≡ parts_form c = sym are ∙ same in absurd cc)
  found (parts.Vectors criterion vectors) are = no_form (λ c same. let no : word_form criterion ∷ are.0 ∷ [] ≡ parts_form c = sym are.1 ∙ same in absurd cc)
  found (parts.All c) are = (are.0, of_parts are.0 are.1.0, are.1.1, are.2)

pub found_there : (p : Parts) (d : Data) → IsTakenOf (ArePartsOf p) AreNoParts true (elements d) → IsShortenedIn d (whole_of p)
found_there p d taken =
    let are = list_taken (ArePartsOf p) AreNoParts d taken in found d are.0 are.1 p are.2
