-- The elements of a list as they are kept, one after another.
use Rattle.std.proofs.Common.{◌≡◌, ◌≢◌, ℕ, zero, suc, ◌+◌, ◌<◌, ◌≤◌, List, [], ◌∷◌, ◌++◌, length, map, take, Option, Some, None, refl, sym, ap, ap₂, subst, ◌∙◌, arith}
use Rattle.std.specs.Prelude.{slice_get}
use Rattle.serde_json.specs.Data.{Data, array, Items, no_items, item}
use Rattle.serde_json.specs.View.{items_of}
use Rattle.json_bounded.specs.Cut.{cut, cut_items, IsKept, AreKept}

-- elements, and more behind them
abbrev pub before : List Data → Items → Items
before [] rest = rest
before (d ∷ ds) rest = item d (before ds rest)

pub before_one_more : (ds : List Data) (d : Data) (rest : Items) → before ds (item d rest) ≡ before (ds ++ d ∷ []) rest
before_one_more [] d rest = refl
before_one_more (e ∷ ds) d rest = ap (item e) (before_one_more ds d rest)

-- so many elements are at most as many as are kept, or fewer: any number is, where there is no limit
abbrev pub IsWithin : ℕ → Option ℕ → Type 0
IsWithin n None = Unit {0}
IsWithin n (Some room) = n ≤ room

abbrev pub IsFewer : ℕ → Option ℕ → Type 0
IsFewer n None = Unit {0}
IsFewer n (Some room) = n < room

-- so many of the first elements, or all of them
abbrev pub first : Option ℕ → List Data → List Data
first None ds = ds
first (Some room) ds = take room ds

pub none_within : (room : Option ℕ) → IsWithin 0 room
none_within None = tt
none_within (Some room) = omega arith

pub within_one_more : (n : ℕ) (room : Option ℕ) → IsWithin n room → room ≢ Some n → IsWithin (n + 1) room
within_one_more n None within other = tt
within_one_more n (Some room) within other = let apart : n ≢ room = λ e. other (ap Some (sym e)) in omega (arith, within)

module _ {P : Type 0} (limit : P → Option ℕ) (inside : P → ℕ → P) (place : P) where
  -- each element from an index on, cut at its place
  abbrev pub cut_each : ℕ → List Data → List Data
  cut_each index [] = []
  cut_each index (d ∷ ds) = cut limit inside (inside place index) d ∷ cut_each (suc index) ds

  pub length-cut_each : (index : ℕ) (ds : List Data) → length (cut_each index ds) ≡ length ds
  length-cut_each index [] = refl
  length-cut_each index (d ∷ ds) = ap suc (length-cut_each (suc index) ds)

  pub cut_one_more : (index : ℕ) (ds : List Data) (d : Data) → cut_each index (ds ++ d ∷ []) ≡ cut_each index ds ++ cut limit inside (inside place (index + length ds)) d ∷ []
  cut_one_more index [] d = let e : index ≡ index + 0 = omega arith in ap (λ i. cut limit inside (inside place i) d ∷ []) e
  cut_one_more index (c ∷ ds) d =
      let e : suc index + length ds ≡ index + suc (length ds) = omega arith in
      ap (λ (es : List Data). cut limit inside (inside place index) c ∷ es)
      (cut_one_more (suc index) ds d ∙ ap (λ i. cut_each (suc index) ds ++ cut limit inside (inside place i) d ∷ []) e)

  no_room : (index : ℕ) (ds : Items) → cut_items limit inside place index (Some 0) ds ≡ no_items
  no_room index no_items = refl
  no_room index (item d ds) = refl

  -- all elements are kept where there is room for them
  pub cut_all : (index : ℕ) (room : Option ℕ) (ds : List Data) → IsWithin (length ds) room → cut_items limit inside place index room (before ds no_items) ≡ items_of (cut_each index ds)
  cut_all index room [] fits = refl
  cut_all index None (d ∷ ds) fits = ap (item (cut limit inside (inside place index) d)) (cut_all (suc index) None ds tt)
  cut_all index (Some zero) (d ∷ ds) fits = let never : ⊥ = omega arith in absurd never
  cut_all index (Some (suc room)) (d ∷ ds) fits = ap (item (cut limit inside (inside place index) d)) (cut_all (suc index) (Some room) ds (omega arith))

  -- and none behind those that fill it
  pub cut_full : (index : ℕ) (ds : List Data) (rest : Items) → cut_items limit inside place index (Some (length ds)) (before ds rest) ≡ items_of (cut_each index ds)
  cut_full index [] rest = no_room index rest
  cut_full index (d ∷ ds) rest = ap (item (cut limit inside (inside place index) d)) (cut_full (suc index) ds rest)

  -- the elements of a list that are kept
  pub cut_front : (index : ℕ) (room : Option ℕ) (ds : List Data) → cut_items limit inside place index room (items_of ds) ≡ items_of (cut_each index (first room ds))
  cut_front index None [] = refl
  cut_front index None (d ∷ ds) = ap (item (cut limit inside (inside place index) d)) (cut_front (suc index) None ds)
  cut_front index (Some zero) [] = refl
  cut_front index (Some (suc room)) [] = refl
  cut_front index (Some zero) (d ∷ ds) = refl
  cut_front index (Some (suc room)) (d ∷ ds) = ap (item (cut limit inside (inside place index) d)) (cut_front (suc index) (Some room) ds)

  -- ---- a place all of whose elements stand at one place

  module _ (element : P) (one_place : (index : ℕ) → inside place index ≡ element) where
    cut_alike : (index : ℕ) (ds : List Data) → cut_each index ds ≡ map (cut limit inside element) ds
    cut_alike index [] = refl
    cut_alike index (d ∷ ds) = ap₂ (λ (p : P) (es : List Data). cut limit inside p d ∷ es) (one_place index) (cut_alike (suc index) ds)

    -- of a list the first elements stay, each cut as all of them
    pub cut_list : (ds : List Data) → cut limit inside place (array (items_of ds)) ≡ array (items_of (map (cut limit inside element) (first (limit place) ds)))
    cut_list ds = ap array (cut_front 0 (limit place) ds ∙ ap items_of (cut_alike 0 (first (limit place) ds)))

    module _ {A : Type 0} (form : A → Data) where
      each_kept : (index : ℕ) (room : Option ℕ) (xs : List A) → IsFewer (length xs) room → ((i : ℕ) (x : A) → slice_get xs i ≡ Some x → IsKept limit inside element (form x))
          → AreKept limit inside place index room (items_of (map form xs))
      each_kept index None [] few each = tt
      each_kept index None (x ∷ xs) few each =
          (subst (λ (p : P). IsKept limit inside p (form x)) (sym (one_place index)) (each 0 x refl), each_kept (suc index) None xs tt (λ i. each (suc i)))
      each_kept index (Some zero) xs few each = let never : ⊥ = omega arith in absurd never
      each_kept index (Some (suc room)) [] few each = tt
      each_kept index (Some (suc room)) (x ∷ xs) few each =
          (subst (λ (p : P). IsKept limit inside p (form x)) (sym (one_place index)) (each 0 x refl), each_kept (suc index) (Some room) xs (omega arith) (λ i. each (suc i)))

      -- a list of forms, short where there is a limit, is kept whole where each of them is
      pub forms_kept : (xs : List A) → IsFewer (length xs) (limit place) → ((i : ℕ) (x : A) → slice_get xs i ≡ Some x → IsKept limit inside element (form x))
          → IsKept limit inside place (array (items_of (map form xs)))
      forms_kept xs few each = each_kept 0 (limit place) xs few each
