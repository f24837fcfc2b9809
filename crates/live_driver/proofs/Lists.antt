-- What stands where in lists that were put together, cut or searched.
use Rattle.std.proofs.Common.{◌≡◌, ℕ, suc, zero, ◌<◌, ◌⊎◌, List, [], ◌∷◌, ◌++◌, length, take, inl, inr, refl, arith}
use Rattle.std.specs.Prelude.{Option, Some, None, slice_get, remove}
use Rattle.std.specs.Option.{option_to_list}

module _ {A : Type 0} where
  pub some_same : (x y : A) → Some x ≡ Some y → x ≡ y
  some_same x y e = cc

  -- what stands in a list stands in a longer one
  pub get_front : (xs ys : List A) (i : ℕ) (x : A) → slice_get xs i ≡ Some x → slice_get (xs ++ ys) i ≡ Some x
  get_front [] ys zero x e = absurd (cc)
  get_front [] ys (suc i) x e = absurd (cc)
  get_front (y ∷ xs) ys zero x e = e
  get_front (y ∷ xs) ys (suc i) x e = get_front xs ys i x e

  -- what stands in two lists put together stands in one of them
  pub get_append_cases : (xs ys : List A) (i : ℕ) (x : A) → slice_get (xs ++ ys) i ≡ Some x → (slice_get xs i ≡ Some x) ⊎ ((j : ℕ) × (slice_get ys j ≡ Some x))
  get_append_cases [] ys i x e = inr (i, e)
  get_append_cases (y ∷ xs) ys zero x e = inl e
  get_append_cases (y ∷ xs) ys (suc i) x e = elim (get_append_cases xs ys i x e) [ inl h ↦ inl h | inr h ↦ inr h ]

  -- what stands among the first stands in the list
  pub get_taken : (xs : List A) (n i : ℕ) (x : A) → slice_get (take n xs) i ≡ Some x → slice_get xs i ≡ Some x
  get_taken xs zero zero x e = absurd (cc)
  get_taken xs zero (suc i) x e = absurd (cc)
  get_taken [] (suc n) i x e = e
  get_taken (y ∷ xs) (suc n) zero x e = e
  get_taken (y ∷ xs) (suc n) (suc i) x e = get_taken xs n i x e

  -- what stands in a list after one was taken out stood there before
  pub get_removed : (xs : List A) (i j : ℕ) (x : A) → slice_get (remove xs i) j ≡ Some x → (k : ℕ) × (slice_get xs k ≡ Some x)
  get_removed [] zero j x e = (j, e)
  get_removed [] (suc i) j x e = (j, e)
  get_removed (y ∷ xs) zero j x e = (suc j, e)
  get_removed (y ∷ xs) (suc i) zero x e = (zero, e)
  get_removed (y ∷ xs) (suc i) (suc j) x e = let r = get_removed xs i j x e in (suc r.0, r.1)

  -- what stands in the list of an option is its value
  pub get_option : (o : Option A) (j : ℕ) (x : A) → slice_get (option_to_list o) j ≡ Some x → o ≡ Some x
  get_option None zero x e = absurd (cc)
  get_option None (suc j) x e = absurd (cc)
  get_option (Some y) zero x e = e
  get_option (Some y) (suc j) x e = absurd (cc)

  -- there is an item at each place
  pub there : (xs : List A) (i : ℕ) → i < length xs → (x : A) × (slice_get xs i ≡ Some x)
  there [] i less = absurd (omega arith)
  there (x ∷ xs) zero less = (x, refl)
  there (x ∷ xs) (suc i) less = there xs i (omega arith)

  pub none_at : (i : ℕ) (x : A) → slice_get {X = A} [] i ≡ Some x → ⊥
  none_at zero x e = cc
  none_at (suc i) x e = cc
