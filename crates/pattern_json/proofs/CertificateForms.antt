-- The elements of a list, each the form of something in range, and the list of them.
use Rattle.std.proofs.Common.{◌≡◌, List, [], ◌∷◌, ◌++◌, All, map, Bool, true, false, Option, Some, None, refl, sym, ap, ap₂, subst, ◌∙◌}
use Rattle.std.specs.Prelude.{◌≢◌}
use Rattle.std.proofs.lemmas.List.{map_push}
use Rattle.std.proofs.lemmas.List.Elements.{All-head, All-push, All-tail}
use Rattle.serde_json.specs.Data.{Data}
use Rattle.json_histories.specs.Json.{elements, list}
use Rattle.json_histories.specs.Laws.Json.{elements-list, list_from_elements}
use Rattle.json_histories.specs.Reads.{list_form}
use Rattle.json_tokens.specs.Gathers.{IsTakenList}
use Rattle.pattern_json.specs.Steps.Lists.{AreForms, AreNoForms, IsForm, IsNoForm, IsReadInto}

-- ---- the elements that were taken are those of the list

module _ (P R : List Data → Type 0) where
  -- what is taken of the elements of a value
  abbrev pub IsTakenOf : Bool → Option (List Data) → Type 0
  IsTakenOf = IsTakenList (λ (s : Unit {0}). P) R tt

  of_elements : (o p : Option (List Data)) → o ≡ p → IsTakenOf true p → (ds : List Data) × (o ≡ Some ds) × P ds
  of_elements o None is taken = absurd cc
  of_elements o (Some ds) is taken = (ds, is, taken)

  pub list_taken : (d : Data) → IsTakenOf true (elements d) → (ds : List Data) × (elements d ≡ Some ds) × P ds
  list_taken d taken = of_elements (elements d) (elements d) refl taken

  -- a list of elements that were not taken is none of these
  pub list_refused : (d : Data) (ds : List Data) → IsTakenOf false (elements d) → d ≡ list ds → R ds
  list_refused d ds taken is = subst (IsTakenOf false) (ap elements is ∙ elements-list ds) taken

-- ---- forms

module _ {A : Type 0} (fits : A → Type 0) (form : A → Data) where
  pub forms_more : (ds : List Data) (xs : List A) (d : Data) (a : A) → AreForms fits form ds xs → IsForm fits form d a → AreForms fits form (ds ++ d ∷ []) (xs ++ a ∷ [])
  forms_more ds xs d a so_far is =
      (ap₂ (λ (es : List Data) (e : Data). es ++ e ∷ []) so_far.0 is.0 ∙ sym (map_push form xs a), All-push fits xs a so_far.1 is.1)

  -- no list in which one element is the form of nothing is one of forms
  pub no_forms : (ds more : List Data) (d : Data) → IsNoForm fits form d → (xs : List A) → All fits xs → ds ++ d ∷ more ≢ map form xs
  no_forms [] more d none [] all same = absurd cc
  no_forms [] more d none (x ∷ xs) all same = let first : d ≡ form x = cc in none x (All-head fits x xs all) first
  no_forms (e ∷ ds) more d none [] all same = absurd cc
  no_forms (e ∷ ds) more d none (x ∷ xs) all same = let rest : ds ++ d ∷ more ≡ map form xs = cc in no_forms ds more d none xs (All-tail fits x xs all) rest

  pub list_is : (d : Data) (ds : List Data) (xs : List A) → elements d ≡ Some ds → AreForms fits form ds xs → IsForm (All fits) (list_form form) d xs
  list_is d ds xs has are = (list_from_elements d ds has ∙ ap list are.0, are.1)

  pub list_is_none : (P : List Data → Type 0) (d : Data) → IsTakenOf P (AreNoForms fits form) false (elements d) → (xs : List A) → All fits xs → d ≢ list_form form xs
  list_is_none P d taken xs all same = list_refused P (AreNoForms fits form) d (map form xs) taken same xs all refl

  -- a list is read into these
  pub list_read : (xs : List A) (taken : Bool) (d : Data) → IsTakenOf (λ ds. AreForms fits form ds xs) (AreNoForms fits form) taken (elements d)
      → IsReadInto (All fits) (list_form form) taken d xs
  list_read xs true d taken =
      let are = list_taken (λ ds. AreForms fits form ds xs) (AreNoForms fits form) d taken in list_is d are.0 xs are.1 are.2
  list_read xs false d taken = list_is_none (λ ds. AreForms fits form ds xs) d taken
