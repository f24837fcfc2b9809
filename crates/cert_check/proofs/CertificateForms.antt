-- A value is the form of one certificate, and of none where one of its parts is the form of nothing.
use Rattle.std.proofs.Common.{◌≡◌, ℕ, ◌^◌, ◌<◌, List, [], ◌∷◌, All, length, map, refl, ap, sym, ◌∙◌, arith}
use Rattle.std.specs.Prelude.{◌≢◌}
use Rattle.std.proofs.lemmas.List.{length-map}
use Rattle.std.proofs.lemmas.Option.{same_Some}
use Rattle.serde_json.specs.Data.{Data}
use Rattle.json_histories.specs.Json.{elements, whole_number}
use Rattle.json_histories.specs.Laws.Json.{elements-list}
use Rattle.json_histories.specs.Reads.{number_form, list_form, worded}
use Rattle.json_histories.proofs.ReadForms.{one_word}
use Rattle.order_causal.specs.Vectors.{ByOperation}
use Rattle.cert_check.specs.declared.criterion.Criterion.{Criterion}
use Rattle.cert_check.specs.declared.criterion.Criterion.TheVariants as criteria
use Rattle.cert_check.specs.declared.certificate.Certificate.{Certificate}
use Rattle.cert_check.specs.declared.certificate.Certificate.TheVariants.{Cc, Cm, Ccv}
use Rattle.cert_check.specs.CriterionNames.{name_of}
use Rattle.cert_check.specs.Certificates.{criterion_of, vectors_of}
use Rattle.cert_check.specs.CertificateForm.{lists_form, form_of, AreBelow, IsCertificate}
use Rattle.cert_check.proofs.CriterionNames.{one_name}

-- ---- one list has one form

one_number : (m n : ℕ) → number_form m ≡ number_form n → m ≡ n
one_number m n same = same_Some m n (ap whole_number same)

module _ {A : Type 0} (form : A → Data) (one : (a b : A) → form a ≡ form b → a ≡ b) where
  same_elements : (xs ys : List A) → map form xs ≡ map form ys → xs ≡ ys
  same_elements [] [] same = refl
  same_elements [] (y ∷ ys) same = absurd cc
  same_elements (x ∷ xs) [] same = absurd cc
  same_elements (x ∷ xs) (y ∷ ys) same =
      let first : form x ≡ form y = cc in
      let rest : map form xs ≡ map form ys = cc in
      rw (one x y first, same_elements xs ys rest) refl

  one_list : (xs ys : List A) → list_form form xs ≡ list_form form ys → xs ≡ ys
  one_list xs ys same = same_elements xs ys (same_Some _ _ (sym (elements-list (map form xs)) ∙ ap elements same ∙ elements-list (map form ys)))

one_list_of_numbers : (xs ys : List ℕ) → list_form number_form xs ≡ list_form number_form ys → xs ≡ ys
one_list_of_numbers = one_list number_form one_number

one_by_operation : (xs ys : ByOperation ℕ) → lists_form xs ≡ lists_form ys → xs ≡ ys
one_by_operation = one_list (list_form (list_form number_form)) (one_list (list_form number_form) one_list_of_numbers)

-- ---- the parts of a certificate

-- the form of what stands behind its vectors
abbrev explained_form : Certificate → Data
explained_form (Cc vectors schedules) = lists_form schedules
explained_form (Cm vectors schedules) = lists_form schedules
explained_form (Ccv vectors arbitration) = list_form number_form arbitration

has_parts : (c : Certificate) → form_of c ≡ worded (name_of (criterion_of c)) (lists_form (vectors_of c) ∷ explained_form c ∷ [])
has_parts (Cc vectors schedules) = refl
has_parts (Cm vectors schedules) = refl
has_parts (Ccv vectors arbitration) = refl

has_counts : (c : Certificate) → IsCertificate c → AreBelow (2 ^ 16) (vectors_of c)
has_counts (Cc vectors schedules) good = good.0
has_counts (Cm vectors schedules) good = good.0
has_counts (Ccv vectors arbitration) good = good.0

module _ (word : List ℕ) (ds : List Data) (c : Certificate) (same : worded word ds ≡ form_of c) where
  parts_are : (word ≡ name_of (criterion_of c)) × (ds ≡ lists_form (vectors_of c) ∷ explained_form c ∷ [])
  parts_are = one_word word (name_of (criterion_of c)) ds (lists_form (vectors_of c) ∷ explained_form c ∷ []) (same ∙ has_parts c)

module _ (criterion : Criterion) (v e : Data) (c : Certificate) (same : worded (name_of criterion) (v ∷ e ∷ []) ≡ form_of c) where
  of_criterion : criterion ≡ criterion_of c
  of_criterion = one_name criterion (criterion_of c) (parts_are (name_of criterion) (v ∷ e ∷ []) c same).0

  both : v ∷ e ∷ [] ≡ lists_form (vectors_of c) ∷ explained_form c ∷ []
  both = (parts_are (name_of criterion) (v ∷ e ∷ []) c same).1

  of_vectors : v ≡ lists_form (vectors_of c)
  of_vectors = let parts = both in cc

  of_explained : e ≡ explained_form c
  of_explained = let parts = both in cc

-- a value is the form of one certificate
one_of_parts : (b c : Certificate) → criterion_of b ≡ criterion_of c → vectors_of b ≡ vectors_of c → explained_form b ≡ explained_form c → b ≡ c
one_of_parts (Cc vs x) (Cc ws y) kind vectors explained = rw (vectors, one_by_operation x y explained) refl
one_of_parts (Cc vs x) (Cm ws y) kind vectors explained = absurd cc
one_of_parts (Cc vs x) (Ccv ws y) kind vectors explained = absurd cc
one_of_parts (Cm vs x) (Cc ws y) kind vectors explained = absurd cc
one_of_parts (Cm vs x) (Cm ws y) kind vectors explained = rw (vectors, one_by_operation x y explained) refl
one_of_parts (Cm vs x) (Ccv ws y) kind vectors explained = absurd cc
one_of_parts (Ccv vs x) (Cc ws y) kind vectors explained = absurd cc
one_of_parts (Ccv vs x) (Cm ws y) kind vectors explained = absurd cc
one_of_parts (Ccv vs x) (Ccv ws y) kind vectors explained = rw (vectors, one_list_of_numbers x y explained) refl

pub one_certificate : (b c : Certificate) → form_of b ≡ form_of c → b ≡ c
one_certificate b c same =
    let is = sym (has_parts b) ∙ same in
    one_of_parts b c (of_criterion (criterion_of b) (lists_form (vectors_of b)) (explained_form b) c is)
    (one_by_operation (vectors_of b) (vectors_of c) (of_vectors (criterion_of b) (lists_form (vectors_of b)) (explained_form b) c is))
    (of_explained (criterion_of b) (lists_form (vectors_of b)) (explained_form b) c is)

-- ---- what is the form of no certificate

pub no_certificate-unworded : (d : Data) → ((word : List ℕ) (ds : List Data) → d ≢ worded word ds) → (c : Certificate) → IsCertificate c → d ≢ form_of c
no_certificate-unworded d none c good same = none (name_of (criterion_of c)) (lists_form (vectors_of c) ∷ explained_form c ∷ []) (same ∙ has_parts c)

pub no_certificate-unnamed : (d : Data) (word : List ℕ) (ds : List Data) → d ≡ worded word ds → ((criterion : Criterion) → word ≢ name_of criterion)
    → (c : Certificate) → IsCertificate c → d ≢ form_of c
no_certificate-unnamed d word ds is none c good same = none (criterion_of c) (parts_are word ds c (sym is ∙ same)).0

pub no_certificate-sized : {V : Type 0} (view : V → Data) (word : List ℕ) (values : List V) → length values ≢ 2
    → (c : Certificate) → IsCertificate c → worded word (map view values) ≢ form_of c
no_certificate-sized view word values two c good same =
    let counted = ap length (parts_are word (map view values) c same).1 in
    let mapped : length (map view values) ≡ length values = simp length-map in
    two (omega arith)

module _ (criterion : Criterion) (v e : Data) where
  pub no_certificate-vectors : ((vectors : ByOperation ℕ) → AreBelow (2 ^ 16) vectors → v ≢ lists_form vectors)
      → (c : Certificate) → IsCertificate c → worded (name_of criterion) (v ∷ e ∷ []) ≢ form_of c
  no_certificate-vectors none c good same = none (vectors_of c) (has_counts c good) (of_vectors criterion v e c same)

-- behind the vectors stands the form of no schedules
module _ (v e : Data) where
  pub no_cc_certificate : ((schedules : ByOperation ℕ) → AreBelow 16 schedules → e ≢ lists_form schedules)
      → (c : Certificate) → IsCertificate c → worded (name_of criteria.Cc) (v ∷ e ∷ []) ≢ form_of c
  no_cc_certificate none (Cc vectors schedules) good same = none schedules good.1 (of_explained criteria.Cc v e (Cc vectors schedules) same)
  no_cc_certificate none (Cm vectors schedules) good same = let no = of_criterion criteria.Cc v e (Cm vectors schedules) same in absurd cc
  no_cc_certificate none (Ccv vectors arbitration) good same = let no = of_criterion criteria.Cc v e (Ccv vectors arbitration) same in absurd cc

  pub no_cm_certificate : ((schedules : ByOperation ℕ) → AreBelow 16 schedules → e ≢ lists_form schedules)
      → (c : Certificate) → IsCertificate c → worded (name_of criteria.Cm) (v ∷ e ∷ []) ≢ form_of c
  no_cm_certificate none (Cc vectors schedules) good same = let no = of_criterion criteria.Cm v e (Cc vectors schedules) same in absurd cc
  no_cm_certificate none (Cm vectors schedules) good same = none schedules good.1 (of_explained criteria.Cm v e (Cm vectors schedules) same)
  no_cm_certificate none (Ccv vectors arbitration) good same = let no = of_criterion criteria.Cm v e (Ccv vectors arbitration) same in absurd cc

  -- or the form of no list of sessions
  pub no_ccv_certificate : ((sessions : List ℕ) → All (λ s. s < 16) sessions → e ≢ list_form number_form sessions)
      → (c : Certificate) → IsCertificate c → worded (name_of criteria.Ccv) (v ∷ e ∷ []) ≢ form_of c
  no_ccv_certificate none (Cc vectors schedules) good same = let no = of_criterion criteria.Ccv v e (Cc vectors schedules) same in absurd cc
  no_ccv_certificate none (Cm vectors schedules) good same = let no = of_criterion criteria.Ccv v e (Cm vectors schedules) same in absurd cc
  no_ccv_certificate none (Ccv vectors arbitration) good same = none arbitration good.1 (of_explained criteria.Ccv v e (Ccv vectors arbitration) same)
