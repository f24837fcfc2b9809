-- Lists of places where nothing was found.
use Rattle.std.proofs.Common.{◌≡◌, ℕ, zero, suc, List, [], ◌∷◌, ◌++◌, inl, inr, sym, subst}
use Rattle.std.specs.Prelude.{Option, Some, None, slice_get}
use Rattle.live_recorder.proofs.Telling.{get_push_cases}

-- one place more where nothing was found
pub none_more : {A : Type 0} (xs : List (Option A)) → ((i : ℕ) (x : Option A) → slice_get xs i ≡ Some x → x ≡ None)
    → (i : ℕ) (x : Option A) → slice_get (xs ++ None ∷ []) i ≡ Some x → x ≡ None
none_more xs before i x at = elim (get_push_cases xs None i x at) [ inl h ↦ before i x h | inr h ↦ sym h.1 ]

pub none_more_at : {A : Type 0} (xs ys : List (Option A)) → ys ≡ xs ++ None ∷ [] → ((i : ℕ) (x : Option A) → slice_get xs i ≡ Some x → x ≡ None)
    → (i : ℕ) (x : Option A) → slice_get ys i ≡ Some x → x ≡ None
none_more_at xs ys pushed before i x at = none_more xs before i x (subst (λ (zs : List (Option _)). slice_get zs i ≡ Some x) pushed at)

nothing_at : {A : Type 0} (i : ℕ) (x : Option A) → slice_get {X = Option A} [] i ≡ Some x → x ≡ None
nothing_at zero x at = absurd cc
nothing_at (suc i) x at = absurd cc

pub none_first : {A : Type 0} (xs : List (Option A)) → xs ≡ [] → (i : ℕ) (x : Option A) → slice_get xs i ≡ Some x → x ≡ None
none_first xs empty i x at = nothing_at i x (subst (λ (zs : List (Option _)). slice_get zs i ≡ Some x) empty at)
