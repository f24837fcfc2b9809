-- What stands at a place of a list: what was read there, and what was put there.
use Rattle.std.proofs.Common.{◌≡◌, ◌≢◌, ℕ, suc, zero, ◌<◌, List, [], ◌∷◌, length, refl, sym, ◌∙◌, ap, get_or, set}
use Rattle.std.specs.Prelude.{Some, slice_get}
use Rattle.std.proofs.lemmas.Option.{slice_get-get_or}

module _ {A : Type 0} where
  -- what was read at a place stands there
  pub read_at : (xs : List A) (i : ℕ) (x : A) → i < length xs → x ≡ get_or xs i x → slice_get xs i ≡ Some x
  read_at xs i x h e = slice_get-get_or xs i x h ∙ ap Some (sym e)

  -- what was put at a place stands there, and the other places are as they were
  pub get_set_same : (xs : List A) (i : ℕ) (v x : A) → slice_get xs i ≡ Some x → slice_get (set xs i v) i ≡ Some v
  get_set_same [] zero v x e = absurd (cc)
  get_set_same [] (suc i) v x e = absurd (cc)
  get_set_same (y ∷ xs) zero v x e = refl
  get_set_same (y ∷ xs) (suc i) v x e = get_set_same xs i v x e

  pub get_set_other : (xs : List A) (i j : ℕ) (v : A) → j ≢ i → slice_get (set xs i v) j ≡ slice_get xs j
  get_set_other [] i j v ne = refl
  get_set_other (y ∷ xs) zero zero v ne = absurd (ne refl)
  get_set_other (y ∷ xs) zero (suc j) v ne = refl
  get_set_other (y ∷ xs) (suc i) zero v ne = refl
  get_set_other (y ∷ xs) (suc i) (suc j) v ne = get_set_other xs i j v (λ (e : j ≡ i). ne (ap suc e))
