-- The elements of a list, each read in its range.
use Rattle.std.proofs.Common.{◌≡◌, ℕ, ◌+◌, ◌<◌, ◌≤◌, List, [], ◌∷◌, ◌++◌, All, length, map, take, get_or, refl, sym, ap, subst, ◌∙◌}
use Rattle.std.specs.Prelude.{◌≢◌, None, Some}
use Rattle.std.proofs.lemmas.List.Elements.{All-nil, All-push, All-get_or}
use Rattle.std.proofs.lemmas.Option.{slice_get_within, get_or_from_slice_get}
use Rattle.serde_json.specs.Data.{Data}
use Rattle.json_histories.specs.Json.{elements}
use Rattle.json_histories.specs.Laws.Json.{elements-list}
use Rattle.json_histories.specs.Reads.{list_form}
use Rattle.json_histories.proofs.ReadForms.{element_form, forms-more, list-read}

module _ {V A : Type 0} (view : V → Data) (fits : A → Type 0) (form : A → Data) (values : List V) where
  -- the values before a place are the forms of these, which are in range
  abbrev pub AreReadUpTo : ℕ → List A → Type 0
  AreReadUpTo k items = (map view (take k values) ≡ map form items) × All fits items

  pub none_read : AreReadUpTo 0 []
  none_read = (refl, All-nil fits)

  pub one_more_read : (k : ℕ) (v : V) (items : List A) (a : A) → v ≡ get_or values k v → k < length values → (view v ≡ form a) × fits a
      → AreReadUpTo k items → AreReadUpTo (k + 1) (items ++ a ∷ [])
  one_more_read k v items a here below is so_far =
      (forms-more view form values k v items a here below is.0 so_far.0, All-push fits items a so_far.1 is.1)

  module _ (d : Data) (has : Some (map view values) ≡ elements d) where
    pub all_read : (k : ℕ) (items : List A) → length values ≤ k → AreReadUpTo k items → (d ≡ list_form form items) × All fits items
    all_read k items ended so_far = (list-read view d values has form items k ended so_far.0, so_far.1)

    -- one of the values is the form of nothing in range
    pub none_fits : (k : ℕ) (v : V) → v ≡ get_or values k v → k < length values → ((a : A) → fits a → view v ≢ form a)
        → (items : List A) → All fits items → d ≢ list_form form items
    none_fits k v here below none items all same =
        let one = element_form view d values has form k v here below items same in
        let fit : fits one.0 = subst fits (get_or_from_slice_get items k one.0 one.0 one.1) (All-get_or fits items k one.0 (slice_get_within items k one.0 one.1) all) in
        none one.0 fit (sym one.2)

-- a value that is no list is the form of none
pub no_list : {A : Type 0} (form : A → Data) (d : Data) → None ≡ elements d → (items : List A) → d ≢ list_form form items
no_list form d none items same = let never : None ≡ Some (map form items) = none ∙ ap elements same ∙ elements-list (map form items) in absurd cc
