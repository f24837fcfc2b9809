-- What stands in a list with one element more, or with another one in a place.
use Rattle.std.specs.Prelude.{◌≡◌, ◌≢◌, ◌⊎◌, ℕ, ◌<◌, List, [], ◌∷◌, ◌++◌, length, Bool, false, Some, slice_get, slice_set}
use Rattle.std.specs.List.{filter}
use Rattle.std.proofs.Common.{zero, suc, arith, refl, ap, inl, inr, ⊎_elim}
use Rattle.std.proofs.lemmas.Option.{same_Some}

module _ {X : Type 0} where
  pub push-still : (xs : List X) (y : X) (k : ℕ) (a : X) → slice_get xs k ≡ Some a → slice_get (xs ++ y ∷ []) k ≡ Some a
  push-still [] y k a at = absurd cc
  push-still (x ∷ xs) y zero a at = at
  push-still (x ∷ xs) y (suc k) a at = push-still xs y k a at

  pub push-end : (xs : List X) (y : X) → slice_get (xs ++ y ∷ []) (length xs) ≡ Some y
  push-end [] y = refl
  push-end (x ∷ xs) y = push-end xs y

  pub push-cases : (xs : List X) (y : X) (k : ℕ) (a : X) → slice_get (xs ++ y ∷ []) k ≡ Some a
      → (slice_get xs k ≡ Some a) ⊎ ((k ≡ length xs) × (y ≡ a))
  push-cases [] y zero a at = inr (refl, same_Some y a at)
  push-cases [] y (suc k) a at = absurd cc
  push-cases (x ∷ xs) y zero a at = inl at
  push-cases (x ∷ xs) y (suc k) a at = ⊎_elim
      (λ (old : slice_get xs k ≡ Some a). inl old)
      (λ (new : (k ≡ length xs) × (y ≡ a)). inr (ap suc new.0, new.1))
      (push-cases xs y k a at)

  pub set-same : (xs : List X) (i : ℕ) (y : X) → i < length xs → slice_get (slice_set xs i y) i ≡ Some y
  set-same [] i y below = absurd (omega arith)
  set-same (x ∷ xs) zero y below = refl
  set-same (x ∷ xs) (suc i) y below = set-same xs i y (omega arith)

  pub set-other : (xs : List X) (i j : ℕ) (y : X) → j ≢ i → slice_get (slice_set xs i y) j ≡ slice_get xs j
  set-other [] i j y apart = refl
  set-other (x ∷ xs) zero zero y apart = absurd (apart refl)
  set-other (x ∷ xs) zero (suc j) y apart = refl
  set-other (x ∷ xs) (suc i) zero y apart = refl
  set-other (x ∷ xs) (suc i) (suc j) y apart = set-other xs i j y (λ same. apart (ap suc same))

  -- nothing passes a test that each element fails
  pub filter-nothing : (p : X → Bool) (xs : List X) → ((k : ℕ) (x : X) → slice_get xs k ≡ Some x → p x ≡ false) → filter p xs ≡ []
  filter-nothing p [] fails = refl
  filter-nothing p (x ∷ xs) fails = rw (fails zero x refl) (filter-nothing p xs (λ k y at. fails (suc k) y at))
