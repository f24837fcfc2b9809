-- Where the elements of a filtered list stand in the whole list, with all that is kept before them.
use Rattle.std.proofs.Common.{◌≡◌, ℕ, zero, suc, ◌≤◌, ◌+◌, Bool, true, false, cond, List, [], ◌∷◌, length, take, refl, ap, sym, ◌∙◌, arith, zero-add}
use Rattle.std.specs.Prelude.{Option, Some, None, option_map, filter, slice_get}
use Rattle.std.specs.List.{enumerate_from}
use Rattle.std.proofs.lemmas.List.{length-take-le}
use Rattle.std.proofs.lemmas.Option.{slice_get_within}

-- what a map of an option gives comes from what is there
pub mapped_from : {X Y : Type 0} (f : X → Y) (o : Option X) (y : Y) → option_map f o ≡ Some y → (x : X) × (o ≡ Some x) × (f x ≡ y)
mapped_from f None y is = absurd cc
mapped_from f (Some x) y is = (x, refl, cc)

-- each element with its place, from n on
numbered_at : {X : Type 0} (n : ℕ) (xs : List X) (m : ℕ) → slice_get (enumerate_from n xs) m ≡ option_map (λ (x : X). (n + m, x)) (slice_get xs m)
numbered_at n [] m = refl
numbered_at {X} n (x ∷ xs) zero = let here : n ≡ n + 0 = omega arith in ap (λ (k : ℕ). Some (k, x)) here
numbered_at {X} n (x ∷ xs) (suc m) =
    let next : (n + 1) + m ≡ n + suc m = omega arith in
    numbered_at (n + 1) xs m ∙ ap (λ (k : ℕ). option_map (λ (y : X). (k, y)) (slice_get xs m)) next

-- so what stands at a place of a list stands there with its place, and what stands there has its place
pub numbered_to : {X : Type 0} (xs : List X) (m : ℕ) (x : X) → slice_get xs m ≡ Some x → slice_get (enumerate_from 0 xs) m ≡ Some (m, x)
numbered_to {X} xs m x at =
    numbered_at 0 xs m ∙ ap (option_map (λ (y : X). (0 + m, y))) at ∙ ap (λ (k : ℕ). Some (k, x)) (zero-add m)

pub numbered_from : {X : Type 0} (xs : List X) (m : ℕ) (e : ℕ × X) → slice_get (enumerate_from 0 xs) m ≡ Some e
    → (m ≡ e.0) × (slice_get xs m ≡ Some e.1)
numbered_from {X} xs m e at =
    let plain = mapped_from (λ (y : X). (0 + m, y)) (slice_get xs m) e (sym (numbered_at 0 xs m) ∙ at) in
    let number : 0 + m ≡ e.0 = ap (λ (x : ℕ × X). x.0) plain.2 in
    let same : plain.0 ≡ e.1 = ap (λ (x : ℕ × X). x.1) plain.2 in
    (sym (zero-add m) ∙ number, plain.1 ∙ ap Some same)

module _ {X : Type 0} (p : X → Bool) where
  -- how many of the first elements of a list pass
  abbrev pub passing_before : List X → ℕ → ℕ
  passing_before xs m = length (filter p (take m xs))

  pub passing_before-le : (xs : List X) (m n : ℕ) → m ≤ n → passing_before xs m ≤ passing_before xs n
  passing_before-le xs zero n below = omega arith
  passing_before-le xs (suc m) zero below = absurd (omega arith)
  passing_before-le [] (suc m) (suc n) below = omega arith
  passing_before-le (x ∷ xs) (suc m) (suc n) below =
      let rest = passing_before-le xs m n (omega arith) in
      elim (p x) as (λ t. length (cond t (x ∷ filter p (take m xs)) (filter p (take m xs))) ≤ length (cond t (x ∷ filter p (take n xs)) (filter p (take n xs)))) [
        | true ↦ omega arith
        | false ↦ rest
      ]

  -- what stands in the filtered list passes, and stands in the list, where what passes before it is what stands before it
  place_in_whole : (xs : List X) (k : ℕ) (a : X) → slice_get (filter p xs) k ≡ Some a
      → (m : ℕ) × (slice_get xs m ≡ Some a) × (p a ≡ true) × (filter p (take m xs) ≡ take k (filter p xs))
  place_in_whole [] k a at = absurd cc
  place_in_whole (x ∷ xs) k a at =
      elim (p x) as (λ t. p x ≡ t → slice_get (cond t (x ∷ filter p xs) (filter p xs)) k ≡ Some a
      → (m : ℕ) × (slice_get (x ∷ xs) m ≡ Some a) × (p a ≡ true) × (filter p (take m (x ∷ xs)) ≡ take k (cond t (x ∷ filter p xs) (filter p xs)))) [
        | true ↦ λ passes. elim k as (λ n. slice_get (x ∷ filter p xs) n ≡ Some a
            → (m : ℕ) × (slice_get (x ∷ xs) m ≡ Some a) × (p a ≡ true) × (filter p (take m (x ∷ xs)) ≡ take n (x ∷ filter p xs))) [
              | zero ↦ λ here. (0, here, let same : x ≡ a = cc in rw (← same) passes, refl)
              | suc n ↦ λ there. let r = place_in_whole xs n a there in (suc r.0, r.1, r.2, rw passes (ap (λ ys. x ∷ ys) r.3))
            ]
        | false ↦ λ fails. λ there. let r = place_in_whole xs k a there in (suc r.0, r.1, r.2, rw fails r.3)
      ] refl at

  -- no more pass than there are
  pub filter-shorter : (xs : List X) → length (filter p xs) ≤ length xs
  filter-shorter [] = omega arith
  filter-shorter (x ∷ xs) =
      let rest = filter-shorter xs in
      elim (p x) as (λ t. length (cond t (x ∷ filter p xs) (filter p xs)) ≤ suc (length xs)) [
        | true ↦ omega arith
        | false ↦ omega arith
      ]

  -- the same, with how many pass before it
  pub filter_place : (xs : List X) (k : ℕ) (a : X) → slice_get (filter p xs) k ≡ Some a
      → (m : ℕ) × (slice_get xs m ≡ Some a) × (p a ≡ true) × (filter p (take m xs) ≡ take k (filter p xs)) × (passing_before xs m ≡ k)
  filter_place xs k a at =
      let r = place_in_whole xs k a at in
      let within = slice_get_within (filter p xs) k a at in
      (r.0, r.1, r.2, r.3, ap length r.3 ∙ length-take-le k (filter p xs) (omega arith))
