-- Where what a filter map gives of an element stands.
use Rattle.std.proofs.Common.{◌≡◌, ℕ, zero, suc, ◌<◌, List, [], ◌∷◌, length, take, refl, ap, ◌∙◌, arith}
use Rattle.std.specs.Prelude.{Option, Some, None, slice_get, filter_map}
use Rattle.std.specs.List.{cons_option}
use Rattle.std.proofs.lemmas.Option.{same_Some}

module _ {X Y : Type 0} (f : X → Option Y) where
  -- how many of the first elements give something
  abbrev pub giving_before : List X → ℕ → ℕ
  giving_before xs m = length (filter_map f (take m xs))

  -- what an element gives stands where that many stand before it
  pub giving-stands : (xs : List X) (m : ℕ) (x : X) (y : Y) → slice_get xs m ≡ Some x → f x ≡ Some y
      → slice_get (filter_map f xs) (giving_before xs m) ≡ Some y
  giving-stands [] m x y at is = absurd cc
  giving-stands (z ∷ xs) zero x y at is =
      ap (λ (o : Option Y). slice_get (cons_option o (filter_map f xs)) 0) (ap f (same_Some _ _ at) ∙ is)
  giving-stands (z ∷ xs) (suc m) x y at is =
      let rest = giving-stands xs m x y at is in
      elim (f z) as (λ o. slice_get (cons_option o (filter_map f xs)) (length (cons_option o (filter_map f (take m xs)))) ≡ Some y) [
        | None ↦ rest
        | Some t ↦ rest
      ]

  -- after it there are more
  pub giving-rises : (xs : List X) (m n : ℕ) (x : X) (y : Y) → m < n → slice_get xs m ≡ Some x → f x ≡ Some y
      → giving_before xs m < giving_before xs n
  giving-rises [] m n x y below at is = absurd cc
  giving-rises (z ∷ xs) m zero x y below at is = absurd (omega arith)
  giving-rises (z ∷ xs) zero (suc n) x y below at is =
      let gives : f z ≡ Some y = ap f (same_Some _ _ at) ∙ is in
      rw gives (omega arith)
  giving-rises (z ∷ xs) (suc m) (suc n) x y below at is =
      let rest = giving-rises xs m n x y (omega arith) at is in
      elim (f z) as (λ o. length (cons_option o (filter_map f (take m xs))) < length (cons_option o (filter_map f (take n xs)))) [
        | None ↦ rest
        | Some t ↦ omega arith
      ]

  -- those before it are what the elements before it give
  pub giving-front : (xs : List X) (m : ℕ) → take (giving_before xs m) (filter_map f xs) ≡ filter_map f (take m xs)
  giving-front xs zero = refl
  giving-front [] (suc m) = refl
  giving-front (z ∷ xs) (suc m) =
      let rest = giving-front xs m in
      elim (f z) as (λ o. take (length (cons_option o (filter_map f (take m xs)))) (cons_option o (filter_map f xs)) ≡ cons_option o (filter_map f (take m xs))) [
        | None ↦ rest
        | Some t ↦ ap (λ (ys : List Y). t ∷ ys) rest
      ]
