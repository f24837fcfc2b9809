-- The elements of a list, by their places.
use Rattle.std.specs.Prelude.{◌≡◌, ℕ, ◌+◌, ◌<◌, ◌≤◌, List, Contains, Some, length, slice_get}
use Rattle.std.proofs.Common.{arith, get_or, sym, ap, subst, ◌∙◌, ⊎_elim, eq-or-lt_of_le}
use Rattle.std.proofs.lemmas.Option.{slice_get_within, slice_get-get_or, get_or_from_slice_get}

-- an element of a list
pub listed-at : {X : Type 0} (xs : List X) (i : ℕ) (x : X) → slice_get xs i ≡ Some x → Contains xs x
listed-at xs i x at = (i, slice_get_within xs i x at, get_or_from_slice_get xs i x x at)

pub at-listed : {X : Type 0} (xs : List X) (x : X) → (inside : Contains xs x) → slice_get xs inside.0 ≡ Some x
at-listed xs x inside = slice_get-get_or xs inside.0 x inside.1 ∙ ap (λ y. Some y) inside.2

-- what holds of the first elements of a list, and of the next
pub each-more : {X : Type 0} (P : X → Type 0) (xs : List X) (n : ℕ) (d : X)
    → ((i : ℕ) (x : X) → i < n → slice_get xs i ≡ Some x → P x) → n < length xs → P (get_or xs n d)
    → (i : ℕ) (x : X) → i < n + 1 → slice_get xs i ≡ Some x → P x
each-more P xs n d before inside here i x below at = ⊎_elim
    (λ (last : i ≡ n).
    let there : slice_get xs n ≡ Some x = ap (slice_get xs) (sym last) ∙ at in
    subst P (get_or_from_slice_get xs n x d there) here)
    (λ (earlier : i < n). before i x earlier at)
    (let up_to : i ≤ n = omega arith in eq-or-lt_of_le up_to)
