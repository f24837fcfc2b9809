-- Where the elements of a filtered list stand in the whole list.
use Rattle.std.proofs.Common.{◌≡◌, ℕ, zero, suc, ◌<◌, Bool, true, false, cond, List, [], ◌∷◌, refl, arith}
use Rattle.std.specs.Prelude.{Some, filter, slice_get}

module _ {X : Type 0} where
  -- a stands before b
  abbrev pub StandBoth : List X → X → X → Type 0
  StandBoth xs a b = (j l : ℕ) × (j < l) × (slice_get xs j ≡ Some a) × (slice_get xs l ≡ Some b)

  StandBoth-cons : (x : X) (xs : List X) (a b : X) → StandBoth xs a b → StandBoth (x ∷ xs) a b
  StandBoth-cons x xs a b r = (suc r.0, suc r.1, omega arith, r.3, r.4)

  -- two places of a list whose rest is kept from another
  StandBoth-from_cons : (x : X) (kept xs : List X) (a b : X)
      → ((l : ℕ) → slice_get kept l ≡ Some b → (j : ℕ) × (slice_get xs j ≡ Some b))
      → ((j l : ℕ) → j < l → slice_get kept j ≡ Some a → slice_get kept l ≡ Some b → StandBoth xs a b)
      → (i k : ℕ) → i < k → slice_get (x ∷ kept) i ≡ Some a → slice_get (x ∷ kept) k ≡ Some b → StandBoth (x ∷ xs) a b
  StandBoth-from_cons x kept xs a b one two i zero below h g = absurd (omega arith)
  StandBoth-from_cons x kept xs a b one two zero (suc l) below h g = let r = one l g in (0, suc r.0, omega arith, h, r.1)
  StandBoth-from_cons x kept xs a b one two (suc j) (suc l) below h g =
      StandBoth-cons x xs a b (two j l (omega arith) h g)

module _ {X : Type 0} (p : X → Bool) where
  -- what passes in a list stands among what the filter keeps
  pub filter_keeps : (xs : List X) (k : ℕ) (a : X) → slice_get xs k ≡ Some a → p a ≡ true
      → (j : ℕ) × (slice_get (filter p xs) j ≡ Some a)
  filter_keeps [] k a h passes = absurd cc
  filter_keeps (x ∷ xs) zero a h passes =
      let here : p x ≡ true = let same : x ≡ a = cc in rw same passes in rw here (0, h)
  filter_keeps (x ∷ xs) (suc k) a h passes =
      let r = filter_keeps xs k a h passes in
      elim (p x) as (λ t. (j : ℕ) × (slice_get (cond t (x ∷ filter p xs) (filter p xs)) j ≡ Some a)) [
        | true ↦ (suc r.0, r.1)
        | false ↦ r
      ]

  -- what the filter keeps stands in the list, and passes
  pub filter_from : (xs : List X) (k : ℕ) (a : X) → slice_get (filter p xs) k ≡ Some a
      → (j : ℕ) × (slice_get xs j ≡ Some a) × (p a ≡ true)
  filter_from [] k a h = absurd cc
  filter_from (x ∷ xs) k a h =
      elim (p x) as (λ t. p x ≡ t → slice_get (cond t (x ∷ filter p xs) (filter p xs)) k ≡ Some a
      → (j : ℕ) × (slice_get (x ∷ xs) j ≡ Some a) × (p a ≡ true)) [
        | true ↦ λ passes. elim k as (λ n. slice_get (x ∷ filter p xs) n ≡ Some a
            → (j : ℕ) × (slice_get (x ∷ xs) j ≡ Some a) × (p a ≡ true)) [
              | zero ↦ λ here. (0, here, let same : x ≡ a = cc in rw (← same) passes)
              | suc m ↦ λ there. let r = filter_from xs m a there in (suc r.0, r.1, r.2)
            ]
        | false ↦ λ _. λ there. let r = filter_from xs k a there in (suc r.0, r.1, r.2)
      ] refl h

  -- the filter keeps the order of the list
  pub filter_in_order : (xs : List X) (i k : ℕ) (a b : X) → i < k
      → slice_get (filter p xs) i ≡ Some a → slice_get (filter p xs) k ≡ Some b → StandBoth xs a b
  filter_in_order [] i k a b below h g = absurd cc
  filter_in_order (x ∷ xs) i k a b below h g =
      elim (p x) as (λ t. slice_get (cond t (x ∷ filter p xs) (filter p xs)) i ≡ Some a
      → slice_get (cond t (x ∷ filter p xs) (filter p xs)) k ≡ Some b → StandBoth (x ∷ xs) a b) [
        | true ↦ StandBoth-from_cons x (filter p xs) xs a b (λ l there. let r = filter_from xs l b there in (r.0, r.1))
            (λ j l. filter_in_order xs j l a b) i k below
        | false ↦ λ e. λ f. StandBoth-cons x xs a b (filter_in_order xs i k a b below e f)
      ] h g
