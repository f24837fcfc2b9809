-- What is at the places of lists that are joined, filtered, searched, or have an element put in.
use Rattle.std.proofs.Common.{◌≡◌, ℕ, zero, suc, ◌+◌, ◌<◌, ◌≤◌, Bool, true, false, List, [], ◌∷◌, ◌++◌, length, get_or, take, drop, refl, ap, sym, ◌∙◌, inl, inr, ⊎_elim, arith}
use Rattle.std.specs.Prelude.{◌⊎◌, ◌||◌, Option, Some, None, slice_get, filter_map, insert}
use Rattle.std.specs.List.{list_any, cons_option}
use Rattle.std.proofs.lemmas.List.Folds.{list_any_at}
use Rattle.std.proofs.lemmas.Option.{same_Some, slice_get_cases, slice_get_within, get_or_from_slice_get}

module _ {X Y : Type 0} (f : X → Option Y) where
  -- what a filter map gives comes from an element of the list, and what it gives of the elements before that comes before it
  pub filter_map-from : (xs : List X) (k : ℕ) (y : Y) → slice_get (filter_map f xs) k ≡ Some y
      → (m : ℕ) × (x : X) × (slice_get xs m ≡ Some x) × (f x ≡ Some y) × (length (filter_map f (take m xs)) ≡ k)
  filter_map-from [] k y at = absurd cc
  filter_map-from (x ∷ xs) k y at =
      elim (f x) as (λ o. f x ≡ o → slice_get (cons_option o (filter_map f xs)) k ≡ Some y
      → (m : ℕ) × (z : X) × (slice_get (x ∷ xs) m ≡ Some z) × (f z ≡ Some y) × (length (filter_map f (take m (x ∷ xs))) ≡ k)) [
        | None ↦ λ none there. let r = filter_map-from xs k y there in (suc r.0, r.1, r.2, r.3, rw none r.4)
        | Some z ↦ λ some. elim k as (λ n. slice_get (z ∷ filter_map f xs) n ≡ Some y
            → (m : ℕ) × (t : X) × (slice_get (x ∷ xs) m ≡ Some t) × (f t ≡ Some y) × (length (filter_map f (take m (x ∷ xs))) ≡ n)) [
              | zero ↦ λ here. (0, x, refl, some ∙ here, refl)
              | suc n ↦ λ there. let r = filter_map-from xs n y there in (suc r.0, r.1, r.2, r.3, rw some (ap suc r.4))
            ]
      ] refl at

  -- and what comes from an element is in what it gives
  pub filter_map-to : (xs : List X) (m : ℕ) (x : X) (y : Y) → slice_get xs m ≡ Some x → f x ≡ Some y
      → (k : ℕ) × (slice_get (filter_map f xs) k ≡ Some y)
  filter_map-to [] m x y at is = absurd cc
  filter_map-to (z ∷ xs) zero x y at is =
      (0, ap (λ (o : Option Y). slice_get (cons_option o (filter_map f xs)) 0) (ap f (same_Some _ _ at) ∙ is))
  filter_map-to (z ∷ xs) (suc m) x y at is =
      let r = filter_map-to xs m x y at is in
      elim (f z) as (λ o. (k : ℕ) × (slice_get (cons_option o (filter_map f xs)) k ≡ Some y)) [
        | None ↦ r
        | Some t ↦ (suc r.0, r.1)
      ]

  -- the first element gives the first
  pub filter_map-first : (xs : List X) (x : X) (y : Y) → slice_get xs 0 ≡ Some x → f x ≡ Some y → slice_get (filter_map f xs) 0 ≡ Some y
  filter_map-first [] x y at is = absurd cc
  filter_map-first (z ∷ xs) x y at is =
      ap (λ (o : Option Y). slice_get (cons_option o (filter_map f xs)) 0) (ap f (same_Some _ _ at) ∙ is)

  -- it gives no more than there are
  pub length-filter_map : (xs : List X) → length (filter_map f xs) ≤ length xs
  length-filter_map [] = omega arith
  length-filter_map (x ∷ xs) =
      let rest = length-filter_map xs in
      elim (f x) as (λ o. length (cons_option o (filter_map f xs)) ≤ suc (length xs)) [
        | None ↦ omega arith
        | Some y ↦ omega arith
      ]

-- what gives the same of each element gives the same list
pub filter_map-same : {X Y : Type 0} (f g : X → Option Y) (xs : List X) → ((k : ℕ) (x : X) → slice_get xs k ≡ Some x → f x ≡ g x)
    → filter_map f xs ≡ filter_map g xs
filter_map-same f g [] same = refl
filter_map-same {X} {Y} f g (x ∷ xs) same =
    let rest = filter_map-same f g xs (λ k. same (suc k)) in
    λ i. cons_option (same 0 x refl i) (rest i)

module _ {X : Type 0} (p : X → Bool) where
  -- where some element passes a test
  pub list_any-from : (xs : List X) → list_any p xs ≡ true → (k : ℕ) × (x : X) × (slice_get xs k ≡ Some x) × (p x ≡ true)
  list_any-from [] holds = absurd cc
  list_any-from (x ∷ xs) holds =
      elim (p x) as (λ b. p x ≡ b → (b || list_any p xs) ≡ true → (k : ℕ) × (z : X) × (slice_get (x ∷ xs) k ≡ Some z) × (p z ≡ true)) [
        | true ↦ λ is _. (0, x, refl, is)
        | false ↦ λ _ rest. let r = list_any-from xs rest in (suc r.0, r.1, r.2, r.3)
      ] refl holds

  pub list_any-to : (xs : List X) (k : ℕ) (x : X) → slice_get xs k ≡ Some x → p x ≡ true → list_any p xs ≡ true
  list_any-to xs k x at is =
      list_any_at p xs k x (slice_get_within xs k x at) (ap p (get_or_from_slice_get xs k x x at) ∙ is)

module _ {X : Type 0} where
  -- what is in two joined lists is in the first, or in the second that much earlier
  pub append-cases : (xs ys : List X) (k : ℕ) (x : X) → slice_get (xs ++ ys) k ≡ Some x
      → (slice_get xs k ≡ Some x) ⊎ ((j : ℕ) × (k ≡ length xs + j) × (slice_get ys j ≡ Some x))
  append-cases [] ys k x at = inr (k, omega arith, at)
  append-cases (z ∷ xs) ys zero x at = inl at
  append-cases (z ∷ xs) ys (suc k) x at = ⊎_elim
      (λ (first : slice_get xs k ≡ Some x). inl first)
      (λ (second : (j : ℕ) × (k ≡ length xs + j) × (slice_get ys j ≡ Some x)). let place = second.1 in inr (second.0, omega arith, second.2))
      (append-cases xs ys k x at)

  -- what is in a list after its first n elements
  pub slice_get-drop : (n : ℕ) (xs : List X) (k : ℕ) → slice_get (drop n xs) k ≡ slice_get xs (n + k)
  slice_get-drop zero xs k = ap (slice_get xs) (omega arith)
  slice_get-drop (suc n) [] k = refl
  slice_get-drop (suc n) (x ∷ xs) k =
      let next : suc n + k ≡ suc (n + k) = omega arith in slice_get-drop n xs k ∙ ap (slice_get (x ∷ xs)) (sym next)

  -- a place within a list has an element
  pub slice_get-found : (xs : List X) (k : ℕ) → k < length xs → (x : X) × (slice_get xs k ≡ Some x)
  slice_get-found xs k inside = ⊎_elim
      (λ (here : (x : X) × (k < length xs) × (slice_get xs k ≡ Some x) × (get_or xs k x ≡ x)). (here.0, here.2))
      (λ (past : (length xs ≤ k) × (slice_get xs k ≡ None)). let outside = past.0 in absurd (omega arith))
      (slice_get_cases xs k).1

  -- an element put in at the place i: what is before it, itself, and what is after it
  pub slice_get-insert_below : (xs : List X) (i j : ℕ) (e : X) → i ≤ length xs → j < i → slice_get (insert xs i e) j ≡ slice_get xs j
  slice_get-insert_below xs zero j e inside below = absurd (omega arith)
  slice_get-insert_below [] (suc i) j e inside below = absurd (omega arith)
  slice_get-insert_below (x ∷ xs) (suc i) zero e inside below = refl
  slice_get-insert_below (x ∷ xs) (suc i) (suc j) e inside below = slice_get-insert_below xs i j e (omega arith) (omega arith)

  pub slice_get-insert_at : (xs : List X) (i : ℕ) (e : X) → i ≤ length xs → slice_get (insert xs i e) i ≡ Some e
  slice_get-insert_at xs zero e inside = refl
  slice_get-insert_at [] (suc i) e inside = absurd (omega arith)
  slice_get-insert_at (x ∷ xs) (suc i) e inside = slice_get-insert_at xs i e (omega arith)

  pub slice_get-insert_above : (xs : List X) (i j : ℕ) (e : X) → i ≤ length xs → i ≤ j → slice_get (insert xs i e) (j + 1) ≡ slice_get xs j
  slice_get-insert_above xs zero j e inside above = let next : j + 1 ≡ suc j = omega arith in ap (slice_get (e ∷ xs)) next
  slice_get-insert_above [] (suc i) j e inside above = absurd (omega arith)
  slice_get-insert_above (x ∷ xs) (suc i) zero e inside above = absurd (omega arith)
  slice_get-insert_above (x ∷ xs) (suc i) (suc j) e inside above =
      let next : suc j + 1 ≡ suc (j + 1) = omega arith in
      ap (slice_get (x ∷ insert xs i e)) next ∙ slice_get-insert_above xs i j e (omega arith) (omega arith)
