-- What stands in a list after one more element was put at a place.
use Rattle.std.proofs.Common.{◌≡◌, ℕ, zero, suc, ◌+◌, ◌<◌, ◌≤◌, List, [], ◌∷◌, ◌++◌, take, drop, length, refl, ap, subst, ◌∙◌, arith, ◌⊎◌, inl, inr, ⊎_elim}
use Rattle.std.specs.Prelude.{Bool, true, ◌||◌, Some, slice_get, map, insert}
use Rattle.std.specs.List.{list_any}
use Rattle.std.proofs.Math.Bool.{or-true}
use Rattle.std.proofs.lemmas.Option.{same_Some, slice_get_within}
use Rattle.std.proofs.lemmas.List.Edits.{insert_end}
use Rattle.std.proofs.lemmas.List.{map-append}

module _ {X : Type 0} where
  -- an element stood before the place, or is the new one, or stood from the place on
  abbrev pub Stood : List X → ℕ → X → ℕ → X → Type 0
  Stood xs at y j a =
      ((j < at) × (slice_get xs j ≡ Some a))
      ⊎ (((j ≡ at) × (y ≡ a))
      ⊎ ((i : ℕ) × (j ≡ i + 1) × (at ≤ i) × (slice_get xs i ≡ Some a)))

  stood-more : (x : X) (xs : List X) (at : ℕ) (y : X) (j : ℕ) (a : X) → Stood xs at y j a → Stood (x ∷ xs) (suc at) y (suc j) a
  stood-more x xs at y j a s = ⊎_elim
      (λ (before : (j < at) × (slice_get xs j ≡ Some a)). inl (omega arith, before.1))
      (λ (other : ((j ≡ at) × (y ≡ a)) ⊎ ((i : ℕ) × (j ≡ i + 1) × (at ≤ i) × (slice_get xs i ≡ Some a))).
      ⊎_elim
      (λ (here : (j ≡ at) × (y ≡ a)). inr (inl (ap suc here.0, here.1)))
      (λ (behind : (i : ℕ) × (j ≡ i + 1) × (at ≤ i) × (slice_get xs i ≡ Some a)).
      inr (inr (suc behind.0, let e = behind.1 in omega arith, let le = behind.2 in omega arith, behind.3)))
      other)
      s

  pub insert-stood : (xs : List X) (at : ℕ) (y : X) (j : ℕ) (a : X) → at ≤ length xs → slice_get (insert xs at y) j ≡ Some a → Stood xs at y j a
  insert-stood xs zero y zero a within is = inr (inl (refl, same_Some y a is))
  insert-stood xs zero y (suc j) a within is = inr (inr (j, omega arith, omega arith, is))
  insert-stood [] (suc at) y j a within is = absurd (omega arith)
  insert-stood (x ∷ xs) (suc at) y zero a within is = inl (omega arith, is)
  insert-stood (x ∷ xs) (suc at) y (suc j) a within is = stood-more x xs at y j a (insert-stood xs at y j a (omega arith) is)

  -- what holds of each element of a list and of one more holds of each element with that one
  pub each-insert : (P : X → Type 0) (xs : List X) (at : ℕ) (y : X) → at ≤ length xs → ((i : ℕ) (a : X) → slice_get xs i ≡ Some a → P a) → P y
      → (j : ℕ) (a : X) → slice_get (insert xs at y) j ≡ Some a → P a
  each-insert P xs at y within each last j a is = ⊎_elim
      (λ (before : (j < at) × (slice_get xs j ≡ Some a)). each j a before.1)
      (λ (other : ((j ≡ at) × (y ≡ a)) ⊎ ((i : ℕ) × (j ≡ i + 1) × (at ≤ i) × (slice_get xs i ≡ Some a))).
      ⊎_elim
      (λ (here : (j ≡ at) × (y ≡ a)). subst P here.1 last)
      (λ (behind : (i : ℕ) × (j ≡ i + 1) × (at ≤ i) × (slice_get xs i ≡ Some a)). each behind.0 a behind.3)
      other)
      (insert-stood xs at y j a within is)

  -- behind all of them
  pub push-stood : (xs : List X) (y : X) (j : ℕ) (a : X) → slice_get (xs ++ y ∷ []) j ≡ Some a → ((j < length xs) × (slice_get xs j ≡ Some a)) ⊎ ((j ≡ length xs) × (y ≡ a))
  push-stood xs y j a is = ⊎_elim
      (λ (before : (j < length xs) × (slice_get xs j ≡ Some a)). inl before)
      (λ (other : ((j ≡ length xs) × (y ≡ a)) ⊎ ((i : ℕ) × (j ≡ i + 1) × (length xs ≤ i) × (slice_get xs i ≡ Some a))).
      ⊎_elim
      (λ (here : (j ≡ length xs) × (y ≡ a)). inr here)
      (λ (behind : (i : ℕ) × (j ≡ i + 1) × (length xs ≤ i) × (slice_get xs i ≡ Some a)).
      let past = behind.2 in
      let inside = slice_get_within xs behind.0 a behind.3 in
      absurd (omega arith))
      other)
      (insert-stood xs (length xs) y j a (omega arith) (ap (λ (l : List X). slice_get l j) (insert_end xs y) ∙ is))

  -- what stands in a list stands in a longer one
  pub stands-append : (xs ys : List X) (j : ℕ) (a : X) → slice_get xs j ≡ Some a → slice_get (xs ++ ys) j ≡ Some a
  stands-append [] ys j a is = absurd cc
  stands-append (x ∷ xs) ys zero a is = is
  stands-append (x ∷ xs) ys (suc j) a is = stands-append xs ys j a is

  -- an element that passes a test
  pub any-at : (p : X → Bool) (xs : List X) (i : ℕ) (a : X) → slice_get xs i ≡ Some a → p a ≡ true → list_any p xs ≡ true
  any-at p [] i a is passes = absurd cc
  any-at p (x ∷ xs) zero a is passes = let same : x ≡ a = same_Some x a is in rw same (rw passes refl)
  any-at p (x ∷ xs) (suc i) a is passes = ap (λ (b : Bool). p x || b) (any-at p xs i a is passes) ∙ or-true (p x)

module _ {X Y : Type 0} (f : X → Y) where
  -- what stands among the values of a function is the value of what stands there
  pub map-stood : (xs : List X) (i : ℕ) (b : Y) → slice_get (map f xs) i ≡ Some b → (a : X) × (slice_get xs i ≡ Some a) × (f a ≡ b)
  map-stood [] i b is = absurd cc
  map-stood (x ∷ xs) zero b is = (x, refl, same_Some (f x) b is)
  map-stood (x ∷ xs) (suc i) b is = map-stood xs i b is

  pub map-take : (n : ℕ) (xs : List X) → map f (take n xs) ≡ take n (map f xs)
  map-take zero xs = refl
  map-take (suc n) [] = refl
  map-take (suc n) (x ∷ xs) = ap (λ (l : List Y). f x ∷ l) (map-take n xs)

  pub map-drop : (n : ℕ) (xs : List X) → map f (drop n xs) ≡ drop n (map f xs)
  map-drop zero xs = refl
  map-drop (suc n) [] = refl
  map-drop (suc n) (x ∷ xs) = map-drop n xs

  -- a function of each element, with one more element
  pub map-insert : (xs : List X) (at : ℕ) (y : X) → map f (insert xs at y) ≡ insert (map f xs) at (f y)
  map-insert xs at y =
      map-append f (take at xs) (y ∷ drop at xs)
      ∙ (ap (λ (l : List Y). l ++ f y ∷ map f (drop at xs)) (map-take at xs)
      ∙ ap (λ (l : List Y). take at (map f xs) ++ f y ∷ l) (map-drop at xs))
