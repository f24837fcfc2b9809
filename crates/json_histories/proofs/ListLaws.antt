-- Lists that are read element by element.
use Rattle.std.proofs.Common.{◌≡◌, ℕ, suc, ◌+◌, ◌<◌, List, [], ◌∷◌, ◌++◌, drop, get_or, length, map, Option, Some, None, refl, ap, sym, ◌∙◌, append_assoc, add-one}
use Rattle.std.specs.Prelude.{slice_get, option_map}
use Rattle.std.proofs.Math.Seq.{drop-cons}
use Rattle.std.proofs.lemmas.Option.{slice_get_within, slice_get-get_or, slice_get-map, get_or_from_slice_get}

-- what stands at a place, as f sees it
pub slice_get-mapped : {A B : Type 0} (f : A → B) (xs : List A) (i : ℕ) (x : A) → x ≡ get_or xs i x → i < length xs → slice_get (map f xs) i ≡ Some (f x)
slice_get-mapped f xs i x e lt = slice_get-map f xs i ∙ ap (option_map f) (slice_get-get_or xs i x lt ∙ ap (λ y. Some y) (sym e))

-- the rest from a place begins with what stands there
pub rest_from : {A : Type 0} (xs : List A) (i : ℕ) (x : A) → slice_get xs i ≡ Some x → drop i xs ≡ x ∷ drop (i + 1) xs
rest_from xs i x here =
    let lt : i < length xs = slice_get_within xs i x here in
    let item : get_or xs i x ≡ x = get_or_from_slice_get xs i x x here in
    rw add-one (drop-cons xs i x lt ∙ ap (λ y. y ∷ drop (suc i) xs) item)

-- one element more before those behind
pub then_more : {A : Type 0} (xs : List A) (x : A) (o : Option (List A))
    → option_map (λ es. xs ++ es) (option_map (λ es. x ∷ es) o) ≡ option_map (λ es. (xs ++ x ∷ []) ++ es) o
then_more xs x None = refl
then_more xs x (Some es) = ap Some (sym (append_assoc xs (x ∷ []) es))
