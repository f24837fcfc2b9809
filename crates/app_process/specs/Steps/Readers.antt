-- How the calls of a reader are those of another one below it.
use Rattle.std.specs.Prelude.{◌≡◌, ◌≤◌, ◌<◌, ◌⊎◌, ℕ, Ok}
use Rattle.json_lines.specs.ReadCalls.{CallOutcome, IsFailure}
use Rattle.app_process.specs.Faults.{most_ahead}

module _ {S : Type 0} (called : S → CallOutcome → S → Type 0) where
  -- a call was one of the reader below, and failed only where that one did
  abbrev pub PassesRead : S → CallOutcome → S → Type 0
  PassesRead old outcome new = (actual : CallOutcome) × called old actual new × (IsFailure outcome → IsFailure actual)

  -- a call gave bytes that were read before, and fewer such calls are left; or it was one of the reader below
  abbrev pub PassesAhead : ℕ → ℕ → S → CallOutcome → S → Type 0
  PassesAhead left_old left_new old outcome new =
      ((count : ℕ) × (outcome ≡ Ok count) × (left_new < left_old) × (left_old ≤ most_ahead) × (new ≡ old))
      ⊎ ((left_new ≡ left_old) × PassesRead old outcome new)

  -- one such call fewer is left, or none fewer and a read call was made
  abbrev pub SparesCall : ℕ → ℕ → S → S → Type 0
  SparesCall left_old left_new old new =
      ((left_new < left_old) × (left_old ≤ most_ahead) × (new ≡ old)) ⊎ ((left_new ≡ left_old) × (outcome : CallOutcome) × called old outcome new)
