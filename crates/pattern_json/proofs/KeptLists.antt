-- What is kept of lists, one session after the other.
use Rattle.std.proofs.Common.{◌≡◌, ◌<◌, ◌≤◌, List, [], ◌∷◌, ◌++◌, length, true, ap, subst, sym, ◌∙◌, ⊎_elim, arith}
use Rattle.std.proofs.lemmas.Bool.{cases_lt}
use Rattle.std.proofs.lemmas.List.{length-append, length-take-le, take-append-le, take_all}
use Rattle.serde_json.specs.Data.{Data}
use Rattle.json_histories.specs.Json.{elements}
use Rattle.pattern_json.specs.Shortened.{kept_sessions}
use Rattle.pattern_json.specs.Steps.Lists.{AreKept, AreNoForms, IsForm, IsKept}
use Rattle.pattern_json.proofs.CertificateForms.{IsTakenOf, forms_more, list_is, list_taken}

module _ {A : Type 0} (xs : List A) where
  -- where no more are kept than a history has, all are
  pub all_kept : length (kept_sessions xs) ≤ 16 → kept_sessions xs ≡ xs
  all_kept few =
      ⊎_elim
      (λ (short : length xs < 17). take_all 17 xs (omega (arith, short)))
      (λ (long : 17 ≤ length xs). let taken = length-take-le 17 xs long in let never : ⊥ = omega (arith, taken, few) in absurd never)
      (cases_lt (length xs) 17)

  -- where more are kept, there are more
  pub more_there : 16 < length (kept_sessions xs) → 16 < length xs
  more_there many =
      ⊎_elim
      (λ (short : length xs < 17). let same : length (kept_sessions xs) ≡ length xs = ap length (take_all 17 xs (omega (arith, short))) in omega (arith, same, many))
      (λ (long : 17 ≤ length xs). omega (arith, long))
      (cases_lt (length xs) 17)

  kept_with : (x : A) → length (kept_sessions xs) ≤ 16 → kept_sessions (xs ++ x ∷ []) ≡ kept_sessions xs ++ x ∷ []
  kept_with x few =
      let all = all_kept few in
      let short : length xs ≤ 16 = subst (λ (ys : List A). length ys ≤ 16) all few in
      take_all 17 (xs ++ x ∷ []) (omega (arith, short, length-append xs (x ∷ []))) ∙ ap (λ (ys : List A). ys ++ x ∷ []) (sym all)

  kept_without : (x : A) → ¬ (length (kept_sessions xs) ≤ 16) → kept_sessions (xs ++ x ∷ []) ≡ kept_sessions xs
  kept_without x full = take-append-le 17 xs (x ∷ []) (let many = more_there (omega (arith, full)) in omega (arith, many))

module _ {A : Type 0} (fits : A → Type 0) (form : A → Data) where
  -- one more is kept where there is room
  pub one_kept : (ds : List Data) (kept : List A) (d : Data) (a : A) → AreKept fits form ds kept → IsForm fits form d a → length kept ≤ 16
      → AreKept fits form (ds ++ d ∷ []) (kept ++ a ∷ [])
  one_kept ds kept d a are is room = (
    are.0 ++ a ∷ [],
    forms_more fits form ds are.0 d a are.1 is,
    ap (λ (ys : List A). ys ++ a ∷ []) are.2 ∙ sym (kept_with are.0 a (subst (λ (ys : List A). length ys ≤ 16) are.2 room)),
  )

  -- or passed
  pub one_passed : (ds : List Data) (kept : List A) (d : Data) (a : A) → AreKept fits form ds kept → IsForm fits form d a → ¬ (length kept ≤ 16)
      → AreKept fits form (ds ++ d ∷ []) kept
  one_passed ds kept d a are is full = (
    are.0 ++ a ∷ [],
    forms_more fits form ds are.0 d a are.1 is,
    are.2 ∙ sym (kept_without are.0 a (subst (λ (ys : List A). ¬ (length ys ≤ 16)) are.2 full)),
  )

  pub list_kept : (kept : List A) (d : Data) → IsTakenOf (λ ds. AreKept fits form ds kept) (AreNoForms fits form) true (elements d) → IsKept fits form d kept
  list_kept kept d taken =
      let are = list_taken (λ ds. AreKept fits form ds kept) (AreNoForms fits form) d taken in
      (are.2.0, list_is fits form d are.0 are.2.0 are.1 are.2.1, are.2.2)
