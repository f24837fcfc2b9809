-- What stands in the front of a list.
use Rattle.std.proofs.Common.{◌≡◌, ℕ, zero, suc, ◌<◌, ◌≤◌, List, [], ◌∷◌, ◌++◌, length, take, arith, ap, sym, subst, ◌∙◌, ⊎_elim, take-take}
use Rattle.std.specs.Prelude.{Some, slice_get}
use Rattle.std.proofs.lemmas.Bool.{cases_lt}
use Rattle.std.proofs.lemmas.List.{length_push, take-append-le, take_at}
use Rattle.std.proofs.lemmas.Option.{same_Some, slice_get_within}

module _ {X : Type 0} where
  -- what stands in the front of a list stands in the list
  pub take-from : (n : ℕ) (xs : List X) (k : ℕ) (a : X) → slice_get (take n xs) k ≡ Some a → (k < n) × (slice_get xs k ≡ Some a)
  take-from zero xs k a at = absurd cc
  take-from (suc n) [] k a at = absurd cc
  take-from (suc n) (x ∷ xs) zero a at = (omega arith, at)
  take-from (suc n) (x ∷ xs) (suc k) a at = let rest = take-from n xs k a at in (omega arith, rest.1)

  -- what stands in a list before the place n stands in its front of n elements
  pub take-stands : (n : ℕ) (xs : List X) (k : ℕ) (a : X) → k < n → slice_get xs k ≡ Some a → slice_get (take n xs) k ≡ Some a
  take-stands zero xs k a below at = absurd (omega arith)
  take-stands (suc n) [] k a below at = absurd cc
  take-stands (suc n) (x ∷ xs) zero a below at = at
  take-stands (suc n) (x ∷ xs) (suc k) a below at = take-stands n xs k a (omega arith) at

  module _ (front whole : List X) (extends : take (length front) whole ≡ front) where
    -- a list that goes on from another has each front of it
    pub front-take : (k : ℕ) → k ≤ length front → take k whole ≡ take k front
    front-take k up_to = sym (take-take k (length front) whole up_to) ∙ ap (take k) extends

    -- and what stands in it
    pub front-at : (k : ℕ) (a : X) → k < length front → slice_get whole k ≡ Some a → slice_get front k ≡ Some a
    front-at k a below at = ap (λ (xs : List X). slice_get xs k) (sym extends) ∙ take-stands (length front) whole k a below at

  -- what stands in a list with one element more
  pub push-at : (xs : List X) (y : X) (k : ℕ) (a : X) → k < length xs → slice_get (xs ++ y ∷ []) k ≡ Some a → slice_get xs k ≡ Some a
  push-at [] y k a below at = absurd (omega arith)
  push-at (x ∷ xs) y zero a below at = at
  push-at (x ∷ xs) y (suc k) a below at = push-at xs y k a (omega arith) at

  pub push-last : (xs : List X) (y : X) (a : X) → slice_get (xs ++ y ∷ []) (length xs) ≡ Some a → y ≡ a
  push-last [] y a at = same_Some y a at
  push-last (x ∷ xs) y a at = push-last xs y a at

  -- what holds at each place of a list, behind the front before it, holds at each place of the list with one element more
  pub each-push : (holds : List X → X → Type 0) (xs : List X) (y : X)
      → ((k : ℕ) (a : X) → slice_get xs k ≡ Some a → holds (take k xs) a) → holds xs y
      → (k : ℕ) (a : X) → slice_get (xs ++ y ∷ []) k ≡ Some a → holds (take k (xs ++ y ∷ [])) a
  each-push holds xs y each last k a at = ⊎_elim
      (λ (inside : k < length xs).
      subst (λ (ys : List X). holds ys a) (sym (take-append-le k xs (y ∷ []) (omega arith))) (each k a (push-at xs y k a inside at)))
      (λ (end : length xs ≤ k).
      let within = slice_get_within (xs ++ y ∷ []) k a at in
      let more = length_push xs y in
      let here : length xs ≡ k = omega arith in
      let same : y ≡ a = push-last xs y a (subst (λ (j : ℕ). slice_get (xs ++ y ∷ []) j ≡ Some a) (sym here) at) in
      subst (λ (ys : List X). holds ys a) (sym (take_at xs (y ∷ []) k here)) (subst (λ (b : X). holds xs b) same last))
      (cases_lt k (length xs))
