-- What stands at a place of a list behind which something is put, or in which something is changed.
use Rattle.std.proofs.Common.{◌≡◌, ◌≢◌, ℕ, zero, suc, ◌<◌, List, [], ◌∷◌, ◌++◌, true, false, length, get_or, set, replicate, ⊎_elim, refl, sym, ◌∙◌, ap, subst, arith}
use Rattle.std.specs.Prelude.{Some, slice_get}
use Rattle.std.proofs.lemmas.Bool.{cases_eq}
use Rattle.std.proofs.lemmas.List.{get_or-set_same, get_or-set_other, get_or-replicate, length-set, length-replicate}
use Rattle.std.proofs.lemmas.Option.{slice_get_within, slice_get-get_or, get_or_from_slice_get}

module _ {X : Type 0} where
  pub pushed-before : (xs : List X) (y : X) (k : ℕ) (x : X) → slice_get xs k ≡ Some x → slice_get (xs ++ y ∷ []) k ≡ Some x
  pushed-before [] y k x at = absurd cc
  pushed-before (z ∷ xs) y zero x at = at
  pushed-before (z ∷ xs) y (suc k) x at = pushed-before xs y k x at

  pub pushed-here : (xs : List X) (y : X) → slice_get (xs ++ y ∷ []) (length xs) ≡ Some y
  pushed-here [] y = refl
  pushed-here (z ∷ xs) y = pushed-here xs y

  pub set-here : (xs : List X) (i : ℕ) (y : X) → i < length xs → slice_get (set xs i y) i ≡ Some y
  set-here xs i y below =
      let size : i < length (set xs i y) = rw (length-set xs i y) below in
      slice_get-get_or (set xs i y) i y size ∙ ap (λ (x : X). Some x) (get_or-set_same xs i y y below)

  pub set-apart : (xs : List X) (i k : ℕ) (y x : X) → k ≢ i → slice_get (set xs i y) k ≡ Some x → slice_get xs k ≡ Some x
  set-apart xs i k y x apart at =
      let inside : k < length xs = rw (length-set xs i y) at (slice_get_within (set xs i y) k x at) in
      slice_get-get_or xs k x inside
      ∙ ap (λ (z : X). Some z) (sym (get_or-set_other xs i k y x apart) ∙ get_or_from_slice_get (set xs i y) k x x at)

  pub set-kept : (xs : List X) (i k : ℕ) (y : X) → i < length xs → slice_get xs k ≡ Some y → slice_get (set xs i y) k ≡ Some y
  set-kept xs i k y below at = ⊎_elim
      (λ (same : k ≡ i). subst (λ (j : ℕ). slice_get (set xs i y) j ≡ Some y) (sym same) (set-here xs i y below))
      (λ (apart : k ≡ i → ⊥).
      let inside : k < length (set xs i y) = rw (length-set xs i y) (slice_get_within xs k y at) in
      slice_get-get_or (set xs i y) k y inside ∙ ap (λ (z : X). Some z) (get_or-set_other xs i k y y apart ∙ get_or_from_slice_get xs k y y at))
      (cases_eq k i)

-- nothing is marked at first
pub none-marked : (n k : ℕ) → slice_get (replicate n false) k ≡ Some true → ⊥
none-marked n k at =
    let inside = slice_get_within (replicate n false) k true at in
    let size = length-replicate n false in
    let here : get_or (replicate n false) k true ≡ true = get_or_from_slice_get (replicate n false) k true true at in
    let there : get_or (replicate n false) k true ≡ false = get_or-replicate n k false true (omega arith) in
    cc
