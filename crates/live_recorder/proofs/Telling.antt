-- Notes of the first cells of a lane: one more note tells one more value.
use Rattle.std.proofs.Common.{◌≡◌, ℕ, suc, ◌+◌, ◌-◌, List, [], ◌∷◌, ◌++◌, length, take, refl, sym, ◌∙◌, ap, subst, arith, add-one, length-append, ◌⊎◌, inl, inr, zero}
use Rattle.std.specs.Prelude.{map, Option, Some, None, option_map, slice_get}
use Rattle.std.proofs.lemmas.List.{map-append}
use Rattle.std.proofs.lemmas.List.Elements.{filter_map-append}
use Rattle.std.proofs.lemmas.Option.{slice_get_within, get_or_from_slice_get}
use Rattle.std.proofs.Math.Seq.{take-suc}
use Rattle.live_recorder.specs.Lanes.{Entry, Returned, Tells, operation, operations}
use Rattle.live_recorder.specs.Sessions.{IsReceipt}
use Rattle.model_history.specs.declared.advice.Advice.{Advice}

module _ {A : Type 0} where
  -- one more of the first of a list
  pub take_one_more : (xs : List A) (n : ℕ) (x : A) → slice_get xs n ≡ Some x → take (n + 1) xs ≡ take n xs ++ x ∷ []
  take_one_more xs n x e = rw add-one (take-suc xs n x (slice_get_within xs n x e) ∙ ap (λ (y : A). take n xs ++ y ∷ []) (get_or_from_slice_get xs n x x e))

  pub length_map : {B : Type 0} (f : A → B) (xs : List A) → length (map f xs) ≡ length xs
  length_map f [] = refl
  length_map f (x ∷ xs) = ap suc (length_map f xs)

  pub length_push : (xs : List A) (x : A) → length (xs ++ x ∷ []) ≡ length xs + 1
  length_push xs x = length-append xs (x ∷ [])

  pub get_pushed : (xs : List A) (x : A) → slice_get (xs ++ x ∷ []) (length xs) ≡ Some x
  get_pushed [] x = refl
  get_pushed (y ∷ xs) x = get_pushed xs x

  -- what stands in a list with one more item stood there before, or is that item
  pub get_push_cases : (xs : List A) (x : A) (i : ℕ) (y : A) → slice_get (xs ++ x ∷ []) i ≡ Some y → (slice_get xs i ≡ Some y) ⊎ ((i ≡ length xs) × (x ≡ y))
  get_push_cases [] x zero y e = inr (refl, cc)
  get_push_cases [] x (suc i) y e = absurd (none_there i e)
    where
      none_there : (j : ℕ) → slice_get {X = A} [] j ≡ Some y → ⊥
      none_there zero h = cc
      none_there (suc j) h = cc
  get_push_cases (z ∷ xs) x zero y e = inl e
  get_push_cases (z ∷ xs) x (suc i) y e = elim (get_push_cases xs x i y e) [ inl h ↦ inl h | inr h ↦ inr (ap suc h.0, h.1) ]

  pub get_push_before : (xs : List A) (x : A) (i : ℕ) (y : A) → slice_get xs i ≡ Some y → slice_get (xs ++ x ∷ []) i ≡ Some y
  get_push_before [] x zero y e = absurd (cc)
  get_push_before [] x (suc i) y e = absurd (cc)
  get_push_before (z ∷ xs) x zero y e = e
  get_push_before (z ∷ xs) x (suc i) y e = get_push_before xs x i y e

module _ {A B : Type 0} (show : ℕ × Option A → Option B) (cells : List ℕ) where
  pub tells_many : (notes : List (ℕ × Option A)) (values : List B) → Tells show cells notes values → length notes ≡ length values
  tells_many notes values t = sym (length_map show notes) ∙ (ap length t.shows ∙ length_map Some values)

  pub tells_more : (notes : List (ℕ × Option A)) (values : List B) (x : ℕ) (k : Option A) (v : B) → Tells show cells notes values → slice_get cells (length notes) ≡ Some x → show (x, k) ≡ Some v
      → Tells show cells (notes ++ (x, k) ∷ []) (values ++ v ∷ [])
  tells_more notes values x k v t at e = record {
    named = map-append (λ (n : ℕ × Option A). n.0) notes ((x, k) ∷ []) ∙ (ap (λ (ys : List ℕ). ys ++ x ∷ []) t.named ∙ (sym (take_one_more cells (length notes) x at) ∙ ap (λ (j : ℕ). take j cells) (sym (length_push notes (x, k)))));
    shows = map-append show notes ((x, k) ∷ []) ∙ (ap (λ (ys : List (Option B)). ys ++ show (x, k) ∷ []) t.shows ∙ (ap (λ (y : Option B). map Some values ++ y ∷ []) e ∙ sym (map-append Some values (v ∷ []))));
  }

  pub tells_none : Tells show cells [] []
  tells_none = record { named = refl; shows = refl }

module _ {C R : Type 0} where
  -- one more note shows one more operation
  pub operations_more : (notes : List (ℕ × Option (Entry C R))) (x : ℕ) (c : C) (r : R) (a : Advice) → operations (notes ++ (x, Some (c, Some (r, a))) ∷ []) ≡ operations notes ++ (c, r, a) ∷ []
  operations_more notes x c r a = filter_map-append operation notes ((x, Some (c, Some (r, a))) ∷ [])

  module _ (cells : List ℕ) (notes : List (ℕ × Option (Entry C R))) (t : Tells operation cells notes (operations notes)) (x : ℕ) (at : slice_get cells (length notes) ≡ Some x) (c : C) (r : R) (a : Advice) where
    pub returned_more : Tells operation cells (notes ++ (x, Some (c, Some (r, a))) ∷ []) (operations (notes ++ (x, Some (c, Some (r, a))) ∷ []))
    returned_more = subst (λ (ops : List (Returned C R)). Tells operation cells (notes ++ (x, Some (c, Some (r, a))) ∷ []) ops) (sym (operations_more notes x c r a)) (tells_more operation cells notes (operations notes) x (Some (c, Some (r, a))) (c, r, a) t at refl)

    pub receipt_cells : map (λ (n : ℕ × Option (Entry C R)). n.0) (notes ++ (x, Some (c, Some (r, a))) ∷ []) ≡ take (length notes + 1) cells
    receipt_cells = returned_more.named ∙ ap (λ (j : ℕ). take j cells) (length_push notes (x, Some (c, Some (r, a))))

    pub is_receipt : IsReceipt (notes ++ (x, Some (c, Some (r, a))) ∷ []) c r
    is_receipt = record {
      shows = returned_more.shows;
      last =
          let many : length (notes ++ (x, Some (c, Some (r, a))) ∷ []) - 1 ≡ length (operations notes) = omega (arith, length_push notes (x, Some (c, Some (r, a))), tells_many operation cells notes (operations notes) t) in
          (a, ap (λ (j : ℕ). slice_get (operations (notes ++ (x, Some (c, Some (r, a))) ∷ [])) j) many ∙ (ap (λ (ops : List (Returned C R)). slice_get ops (length (operations notes))) (operations_more notes x c r a) ∙ get_pushed (operations notes) (c, r, a)));
    }

    -- the same of notes that were pushed so
    module _ (notes' : List (ℕ × Option (Entry C R))) (k : Option (Entry C R)) (e : notes' ≡ notes ++ (x, k) ∷ []) (is : k ≡ Some (c, Some (r, a))) where
      pub pushed : notes' ≡ notes ++ (x, Some (c, Some (r, a))) ∷ []
      pushed = e ∙ ap (λ (y : Option (Entry C R)). notes ++ (x, y) ∷ []) is

      pub receipt_pushed : IsReceipt notes' c r
      receipt_pushed = subst (λ (l : List (ℕ × Option (Entry C R))). IsReceipt l c r) (sym pushed) is_receipt

      pub cells_pushed : map (λ (n : ℕ × Option (Entry C R)). n.0) notes' ≡ take (length notes + 1) cells
      cells_pushed = ap (map (λ (n : ℕ × Option (Entry C R)). n.0)) pushed ∙ receipt_cells

      pub operations_pushed : operations notes' ≡ operations notes ++ (c, r, a) ∷ []
      operations_pushed = ap operations pushed ∙ operations_more notes x c r a

-- what stands at a place of a list of images
pub get_map : {A B : Type 0} (f : A → B) (xs : List A) (i : ℕ) → slice_get (map f xs) i ≡ option_map f (slice_get xs i)
get_map f [] zero = refl
get_map f [] (suc i) = refl
get_map f (x ∷ xs) zero = refl
get_map f (x ∷ xs) (suc i) = get_map f xs i

module _ {C R : Type 0} (notes : List (ℕ × Option (Entry C R))) (i : ℕ) (n : ℕ × Option (Entry C R)) (at : slice_get notes i ≡ Some n) where
  pub cell_told : slice_get (map (λ (m : ℕ × Option (Entry C R)). m.0) notes) i ≡ Some n.0
  cell_told = get_map (λ (m : ℕ × Option (Entry C R)). m.0) notes i ∙ ap (option_map (λ (m : ℕ × Option (Entry C R)). m.0)) at

  some_is : (v : Option (Returned C R)) → Some (operation n) ≡ option_map Some v → operation n ≡ v
  some_is None e = absurd (cc)
  some_is (Some x) e = cc

  pub operation_told : map operation notes ≡ map Some (operations notes) → operation n ≡ slice_get (operations notes) i
  operation_told e = some_is (slice_get (operations notes) i) (sym (get_map operation notes i ∙ ap (option_map operation) at) ∙ (ap (λ (l : List (Option (Returned C R))). slice_get l i) e ∙ get_map Some (operations notes) i))

pub told_many : {C R : Type 0} (notes : List (ℕ × Option (Entry C R))) → map operation notes ≡ map Some (operations notes) → length notes ≡ length (operations notes)
told_many notes e = sym (length_map operation notes) ∙ (ap length e ∙ length_map Some (operations notes))

module _ {A B : Type 0} (show : ℕ × Option A → Option B) (cells : List ℕ) (notes : List (ℕ × Option A)) (values : List B) (t : Tells show cells notes values) (i : ℕ) (n : ℕ × Option A) (at : slice_get notes i ≡ Some n) where
  front_at : (xs : List ℕ) (k j x : ℕ) → slice_get (take k xs) j ≡ Some x → slice_get xs j ≡ Some x
  front_at xs zero zero x e = absurd (cc)
  front_at xs zero (suc j) x e = absurd (cc)
  front_at [] (suc k) j x e = e
  front_at (y ∷ xs) (suc k) zero x e = e
  front_at (y ∷ xs) (suc k) (suc j) x e = front_at xs k j x e

  pub tells_cell : slice_get cells i ≡ Some n.0
  tells_cell = front_at cells (length notes) i n.0 (ap (λ (l : List ℕ). slice_get l i) (sym t.named) ∙ (get_map (λ (m : ℕ × Option A). m.0) notes i ∙ ap (option_map (λ (m : ℕ × Option A). m.0)) at))

  value_is : (x : Option B) (v : Option B) → Some x ≡ option_map Some v → x ≡ v
  value_is x None e = absurd (cc)
  value_is x (Some y) e = cc

  pub tells_value : show n ≡ slice_get values i
  tells_value = value_is (show n) (slice_get values i) (sym (get_map show notes i ∙ ap (option_map show) at) ∙ (ap (λ (l : List (Option B)). slice_get l i) t.shows ∙ get_map Some values i))
