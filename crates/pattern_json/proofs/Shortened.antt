-- What is kept of a certificate that is too large is too large, and has the shape of no history; what is kept of another is all of it.
use Rattle.std.proofs.Common.{◌≡◌, ◌<◌, ◌≤◌, List, length, ap, ap₂, subst, sym, ◌∙◌, arith, inl, inr}
use Rattle.std.specs.Prelude.{Bool, Some}
use Rattle.serde_json.specs.Data.{Data}
use Rattle.model_history.specs.History.{HistoryValue, IsHistory}
use Rattle.order_causal.specs.Vectors.{HasOneEach}
use Rattle.cert_check.specs.declared.certificate.Certificate.{Certificate}
use Rattle.cert_check.specs.declared.certificate.Certificate.TheVariants.{Cc, Cm, Ccv}
use Rattle.cert_check.specs.Certificates.{HasShapeOf}
use Rattle.cert_check.specs.CertificateForm.{form_of, IsCertificate}
use Rattle.pattern_json.specs.Found.{IsShortenedIn}
use Rattle.pattern_json.specs.Shortened.{kept_sessions, shortened, IsTooLarge}
use Rattle.pattern_json.proofs.KeptLists.{all_kept, more_there}

few_kept : {A : Type 0} (xs : List A) → ¬ (16 < length (kept_sessions xs)) → kept_sessions xs ≡ xs
few_kept xs few = all_kept xs (omega (arith, few))

pub whole_is_large : (c : Certificate) → IsTooLarge (shortened c) → IsTooLarge c
whole_is_large (Cc vectors schedules) (inl many) = inl (more_there vectors many)
whole_is_large (Cc vectors schedules) (inr many) = inr (more_there schedules many)
whole_is_large (Cm vectors schedules) (inl many) = inl (more_there vectors many)
whole_is_large (Cm vectors schedules) (inr many) = inr (more_there schedules many)
whole_is_large (Ccv vectors arbitration) many = more_there vectors many

pub whole_is_kept : (c : Certificate) → ¬ IsTooLarge (shortened c) → shortened c ≡ c
whole_is_kept (Cc vectors schedules) few = ap₂ Cc (few_kept vectors (λ many. few (inl many))) (few_kept schedules (λ many. few (inr many)))
whole_is_kept (Cm vectors schedules) few = ap₂ Cm (few_kept vectors (λ many. few (inl many))) (few_kept schedules (λ many. few (inr many)))
whole_is_kept (Ccv vectors arbitration) few = ap (λ vs. Ccv vs arbitration) (few_kept vectors few)

-- what is found where this was read
module _ (d : Data) (kept : Certificate) (is : IsShortenedIn d (Some kept)) where
  pub found_large : IsTooLarge kept → (c : Certificate) × (d ≡ form_of c) × IsCertificate c × IsTooLarge c
  found_large large = (is.0, is.1, is.2, whole_is_large is.0 (subst IsTooLarge is.3 large))

  pub found_whole : ¬ IsTooLarge kept → (d ≡ form_of kept) × IsCertificate kept × ¬ IsTooLarge kept
  found_whole few =
      let same : kept ≡ is.0 = is.3 ∙ whole_is_kept is.0 (λ large. few (subst IsTooLarge (sym is.3) large)) in
      (is.1 ∙ ap form_of (sym same), subst IsCertificate (sym same) is.2, few)

module _ {S C R : Type 0} (h : HistoryValue S C R) (few : length h.1 ≤ 16) where
  not_many : {A : Type 0} (lists : List (List (List A))) → 16 < length lists → ¬ HasOneEach h lists
  not_many lists many one_each = absurd (omega (arith, one_each.sessions))

  pub no_shape : (c : Certificate) → IsTooLarge c → ¬ HasShapeOf h c
  no_shape (Cc vectors schedules) (inl large) shape = not_many vectors large shape.0.one_each
  no_shape (Cc vectors schedules) (inr large) shape = not_many schedules large shape.1
  no_shape (Cm vectors schedules) (inl large) shape = not_many vectors large shape.0.one_each
  no_shape (Cm vectors schedules) (inr large) shape = not_many schedules large shape.1
  no_shape (Ccv vectors arbitration) large shape = not_many vectors large shape.0.one_each

  -- where a certificate, or what is kept of it, has the shape of a history, all of it is kept
  pub of_whole_shape : (c : Certificate) → HasShapeOf h c → shortened c ≡ c
  of_whole_shape c shape = whole_is_kept c (λ large. no_shape c (whole_is_large c large) shape)

  pub of_kept_shape : (c : Certificate) → HasShapeOf h (shortened c) → shortened c ≡ c
  of_kept_shape c shape = whole_is_kept c (λ large. no_shape (shortened c) large shape)

-- a history is within the limits
pub too_large_has_no_shape : {S C R : Type 0} (is_start : S → Type 0) (fits : C → R → Bool) (h : HistoryValue S C R) → IsHistory is_start fits h
    → (c : Certificate) → IsTooLarge c → ¬ HasShapeOf h c
too_large_has_no_shape is_start fits h is = no_shape h is.few
