-- Lists of which each element is related to the next, gathered place by place.
use Rattle.std.proofs.Common.{◌≡◌, ℕ, ◌+◌, ◌-◌, ◌<◌, ◌≤◌, List, length, get_or, ⊎_elim, eq-or-lt_of_le, arith, ap, sym, ◌∙◌, subst₂}
use Rattle.std.specs.Prelude.{Some, slice_get}
use Rattle.std.proofs.lemmas.Option.{same_Some, slice_get_within, slice_get-get_or}

module _ {X : Type 0} (R : X → X → Type 0) (xs : List X) where
  -- each element before the place n is related to the next, where that one is before n too
  abbrev pub AreRelatedUpTo : ℕ → Type 0
  AreRelatedUpTo n = (k : ℕ) (a b : X) → k + 1 < n → slice_get xs k ≡ Some a → slice_get xs (k + 1) ≡ Some b → R a b

  -- the elements at two places
  at_places : (j k : ℕ) (a b d e : X) → slice_get xs j ≡ Some a → slice_get xs k ≡ Some b → R (get_or xs j d) (get_or xs k e) → R a b
  at_places j k a b d e at_j at_k related =
      subst₂ R (same_Some _ _ (sym (slice_get-get_or xs j d (slice_get_within xs j a at_j)) ∙ at_j))
      (same_Some _ _ (sym (slice_get-get_or xs k e (slice_get_within xs k b at_k)) ∙ at_k)) related

  -- one element more
  pub related-next : (n : ℕ) (d e : X) → 0 < n → AreRelatedUpTo n → R (get_or xs (n - 1) d) (get_or xs n e) → AreRelatedUpTo (n + 1)
  related-next n d e some so_far here k a b below at_a at_b =
      ⊎_elim
      (λ (last : k + 1 ≡ n).
      let before : k ≡ n - 1 = omega arith in
      at_places (n - 1) n a b d e (ap (slice_get xs) (sym before) ∙ at_a) (ap (slice_get xs) (sym last) ∙ at_b) here)
      (λ (earlier : k + 1 < n). so_far k a b earlier at_a at_b)
      (let up_to : k + 1 ≤ n = omega arith in eq-or-lt_of_le up_to)

  -- the whole list
  pub related-end : (n : ℕ) → length xs ≤ n → AreRelatedUpTo n → (k : ℕ) (a b : X) → slice_get xs k ≡ Some a → slice_get xs (k + 1) ≡ Some b → R a b
  related-end n ended so_far k a b at_a at_b =
      let below = slice_get_within xs (k + 1) b at_b in so_far k a b (omega arith) at_a at_b

  -- two neighbours of a list in which each element is related to the next
  pub related-at : (n : ℕ) (d e : X) → 0 < n → n < length xs
      → ((k : ℕ) (a b : X) → slice_get xs k ≡ Some a → slice_get xs (k + 1) ≡ Some b → R a b) → R (get_or xs (n - 1) d) (get_or xs n e)
  related-at n d e some below related =
      let next : n - 1 + 1 ≡ n = omega arith in
      let before : n - 1 < length xs = omega arith in
      related (n - 1) _ _ (slice_get-get_or xs (n - 1) d before) (ap (slice_get xs) next ∙ slice_get-get_or xs n e below)
