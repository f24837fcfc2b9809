-- Lists of the sessions that are asked in turn.
use Rattle.std.specs.Prelude.{◌≡◌, ◌≢◌, ◌++◌, ℕ, ◌+◌, List, [], ◌∷◌, Option, MatchOption, Some, length, slice_get}

-- the hint stands at the end of the list, if there is one
abbrev pub IsWoken : List ℕ → Option ℕ → List ℕ → Type 0
IsWoken awake hint woken = MatchOption hint (woken ≡ awake) (λ s. woken ≡ awake ++ s ∷ [])

-- the list is one shorter, has what it had at other places than one, and nothing else
pub record IsTakenOut (list : List ℕ) (place : ℕ) (rest : List ℕ) : Type 0 where
  pub size : length rest + 1 ≡ length list
  pub kept : (k t : ℕ) → k ≢ place → slice_get list k ≡ Some t → (j : ℕ) × (slice_get rest j ≡ Some t)
  pub no_other : (k t : ℕ) → slice_get rest k ≡ Some t → (j : ℕ) × (slice_get list j ≡ Some t)
