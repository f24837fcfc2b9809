-- What a JSON value is, from what was read of it.
use Rattle.std.proofs.Common.{◌≡◌, ℕ, ◌+◌, ◌<◌, ◌≤◌, List, [], ◌∷◌, ◌++◌, length, map, take, get_or, sym, ap, ◌∙◌}
use Rattle.std.specs.Prelude.{◌≢◌, Some, option_map, slice_get}
use Rattle.std.proofs.lemmas.List.{take_all, take_more, map_push}
use Rattle.std.proofs.lemmas.Option.{same_Some, slice_get-map, slice_get-get_or}
use Rattle.serde_json.specs.Data.{Data, string}
use Rattle.serde_json.specs.Find.{as_str}
use Rattle.json_histories.specs.Json.{list, elements}
use Rattle.json_histories.specs.Laws.Json.{map_from, as_str-read, elements-list, list_from_elements}
use Rattle.json_histories.specs.Reads.{list_form, worded}

-- equal lists behind a word have the same word, and the same elements behind it
pub one_word : (word other : List ℕ) (ds es : List Data) → worded word ds ≡ worded other es → (word ≡ other) × (ds ≡ es)
one_word word other ds es same =
    let lists : string word ∷ ds ≡ string other ∷ es = same_Some _ _ (sym (elements-list (string word ∷ ds)) ∙ ap elements same ∙ elements-list (string other ∷ es)) in
    let words : word ≡ other = cc in
    let rest : ds ≡ es = cc in
    (words, rest)

module _ {V : Type 0} (view : V → Data) (d : Data) (values : List V) (has : Some (map view values) ≡ elements d) where
  pub is_list : d ≡ list (map view values)
  is_list = list_from_elements d (map view values) (sym has)

  -- a list that begins with a word
  pub worded-read : (w : V) (rest : List V) (word : List ℕ) → values ≡ w ∷ rest → Some word ≡ as_str (view w) → d ≡ worded word (map view rest)
  worded-read w rest word parts text =
      is_list ∙ ap (λ (vs : List V). list (map view vs)) parts
      ∙ ap (λ (first : Data). list (first ∷ map view rest)) (as_str-read (view w) word (sym text))

  module _ {A : Type 0} (form : A → Data) where
    -- each value of the list is the form of one of these
    pub list-read : (items : List A) (k : ℕ) → length values ≤ k → map view (take k values) ≡ map form items → d ≡ list_form form items
    list-read items k ended read = is_list ∙ ap list (ap (map view) (sym (take_all k values ended)) ∙ read)

    -- the value at a place of the list is the form of what stands there
    pub element_form : (k : ℕ) (v : V) → v ≡ get_or values k v → k < length values → (items : List A) → d ≡ list_form form items
        → (a : A) × (slice_get items k ≡ Some a) × (form a ≡ view v)
    element_form k v here below items same =
        let lists : Some (map view values) ≡ Some (map form items) = has ∙ ap elements same ∙ elements-list (map form items) in
        let at : slice_get values k ≡ Some v = slice_get-get_or values k v below ∙ ap (λ (x : V). Some x) (sym here) in
        let at_form : option_map form (slice_get items k) ≡ Some (view v) =
        sym (slice_get-map form items k) ∙ ap (λ (ds : List Data). slice_get ds k) (sym (same_Some _ _ lists)) ∙ slice_get-map view values k ∙ ap (option_map view) at in
        map_from form (slice_get items k) (view v) at_form

    -- a value of the list is the form of nothing
    pub no_list : (k : ℕ) (v : V) → v ≡ get_or values k v → k < length values → ((a : A) → view v ≢ form a) → (items : List A) → d ≢ list_form form items
    no_list k v here below none items same =
        let one = element_form k v here below items same in
        none one.0 (sym one.2)

-- one form more
pub forms-more : {V A : Type 0} (view : V → Data) (form : A → Data) (values : List V) (k : ℕ) (v : V) (items : List A) (a : A)
    → v ≡ get_or values k v → k < length values → view v ≡ form a → map view (take k values) ≡ map form items
    → map view (take (k + 1) values) ≡ map form (items ++ a ∷ [])
forms-more {V} view form values k v items a here below is read =
    ap (map view) (take_more values k v below ∙ ap (λ (x : V). take k values ++ x ∷ []) (sym here))
    ∙ map_push view (take k values) v ∙ rw (read, is) (sym (map_push form items a))
