-- Some of a list: one more, those of two lists, and all.
use Rattle.std.specs.Prelude.{◌≡◌, ◌≢◌, ◌⊎◌, ◌↔◌, ◌++◌, ℕ, ◌+◌, ◌*◌, ◌/◌, ◌%◌, ◌<◌, ◌≤◌, List, [], ◌∷◌, Some, length, slice_get}
use Rattle.std.proofs.Common.{arith, ap, sym, ◌∙◌, refl, subst, inl, inr, ⊎_elim}
use Rattle.std.proofs.Math.Nat.{div-lt_iff_lt-mul, mod-lt}
use Rattle.std.proofs.lemmas.Bool.{cases_eq}
use Rattle.std.proofs.lemmas.Nat.{div-add-mod'}
use Rattle.std.proofs.lemmas.Option.{same_Some, slice_get_within}
use Rattle.judge_workers.specs.Numbers.{HasNumber}
use Rattle.judge_workers.proofs.NumberLists.{has-alone, has-cases, has-first, has-second}
use Rattle.judge_columns.specs.Groups.{IsAmong, IsFrom, IsInGroups}
use Rattle.judge_columns.specs.Swept.{IsListed}

module _ (size : ℕ) (at : ℕ → ℕ → Type 0) where
  -- the groups of one list, and those of another
  pub groups-joined : (xs ys : List ℕ) (t : ℕ) → IsInGroups size at (xs ++ ys) t ↔ (IsInGroups size at xs t ⊎ IsInGroups size at ys t)
  groups-joined xs ys t = (
    (λ (g, has, from). ⊎_elim
        (λ (first : HasNumber xs g). inl (g, first, from))
        (λ (second : HasNumber ys g). inr (g, second, from))
        (has-cases xs ys g has)),
    λ either. ⊎_elim
        (λ (first : IsInGroups size at xs t). (first.0, has-first xs ys first.0 first.1, first.2))
        (λ (second : IsInGroups size at ys t). (second.0, has-second xs ys second.0 second.1, second.2))
        either,
  )

  -- a group more
  pub groups-more : (groups : List ℕ) (g t : ℕ)
      → IsInGroups size at (groups ++ g ∷ []) t ↔ (IsInGroups size at groups t ⊎ IsFrom at (g * size) size t)
  groups-more groups g t = (
    (λ is. ⊎_elim
        (λ (old : IsInGroups size at groups t). inl old)
        (λ (new : IsInGroups size at (g ∷ []) t).
        inr (subst (λ (n : ℕ). IsFrom at (n * size) size t) (has-alone g new.0 new.1) new.2))
        ((groups-joined groups (g ∷ []) t).0 is)),
    λ either. (groups-joined groups (g ∷ []) t).1 (⊎_elim
        (λ (old : IsInGroups size at groups t). inl old)
        (λ (new : IsFrom at (g * size) size t). inr (g, (0, refl), new))
        either),
  )

  -- so many groups cover so many places
  pub groups-all : (len count : ℕ) (groups : List ℕ) → 0 < size → len ≤ count * size → ((k t : ℕ) → at k t → k < len)
      → ((g : ℕ) → g < count → HasNumber groups g) → (t : ℕ) → ((k : ℕ) × (k < len) × at k t) ↔ IsInGroups size at groups t
  groups-all len count groups some enough inside all t = (
    (λ (k, below, here).
        let g = (div-lt_iff_lt-mul {x = k} {y = count} some).1 (omega arith) in
        let parts : k / size * size + k % size ≡ k = div-add-mod' k size in
        (k / size, all (k / size) g, (k % size, mod-lt k {m = size} some, subst (λ (n : ℕ). at n t) (sym parts) here))),
    λ (g, has, (k, below, here)). (g * size + k, inside (g * size + k) t here, here),
  )

-- ---- places of a list of sessions

module _ (sessions : List ℕ) where
  -- the places of two lists
  pub among-joined : (xs ys : List ℕ) (t : ℕ) → IsAmong sessions (xs ++ ys) t ↔ (IsAmong sessions xs t ⊎ IsAmong sessions ys t)
  among-joined xs ys t = (
    (λ (k, has, at). ⊎_elim
        (λ (first : HasNumber xs k). inl (k, first, at))
        (λ (second : HasNumber ys k). inr (k, second, at))
        (has-cases xs ys k has)),
    λ either. ⊎_elim
        (λ (first : IsAmong sessions xs t). (first.0, has-first xs ys first.0 first.1, first.2))
        (λ (second : IsAmong sessions ys t). (second.0, has-second xs ys second.0 second.1, second.2))
        either,
  )

  -- a place more
  pub among-more : (places : List ℕ) (k s : ℕ) → slice_get sessions k ≡ Some s → (t : ℕ)
      → IsAmong sessions (places ++ k ∷ []) t ↔ (IsAmong sessions places t ⊎ (t ≡ s))
  among-more places k s here t = (
    (λ is. ⊎_elim
        (λ (old : IsAmong sessions places t). inl old)
        (λ (new : IsAmong sessions (k ∷ []) t).
        let same = has-alone k new.0 new.1 in
        inr (same_Some t s (sym (subst (λ (j : ℕ). slice_get sessions j ≡ Some t) same new.2) ∙ here)))
        ((among-joined places (k ∷ []) t).0 is)),
    λ either. (among-joined places (k ∷ []) t).1 (⊎_elim
        (λ (old : IsAmong sessions places t). inl old)
        (λ (same : t ≡ s). inr (k, (0, refl), here ∙ ap (λ (u : ℕ). Some u) (sym same)))
        either),
  )

  -- all places
  pub among-all : (places : List ℕ) → ((k : ℕ) → k < length sessions → HasNumber places k) → (t : ℕ)
      → IsListed sessions (length sessions) t ↔ IsAmong sessions places t
  among-all places all t = (
    (λ (k, below, at). (k, all k below, at)),
    λ (k, has, at). (k, slice_get_within sessions k t at, at),
  )

-- one session more of a list
pub listed-more : (sessions : List ℕ) (i s : ℕ) → slice_get sessions i ≡ Some s → (t : ℕ)
    → IsListed sessions (i + 1) t ↔ (IsListed sessions i t ⊎ (t ≡ s))
listed-more sessions i s here t = (
  (λ (k, below, at). ⊎_elim
      (λ (same : k ≡ i). inr (same_Some t s (sym (subst (λ (j : ℕ). slice_get sessions j ≡ Some t) same at) ∙ here)))
      (λ (apart : k ≢ i). inl (k, omega arith, at))
      (cases_eq k i)),
  λ either. ⊎_elim
      (λ (old : IsListed sessions i t). let below = old.1 in (old.0, omega arith, old.2))
      (λ (same : t ≡ s). (i, omega arith, here ∙ ap (λ (u : ℕ). Some u) (sym same)))
      either,
)
