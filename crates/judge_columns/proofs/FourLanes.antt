-- What holds in each of four lanes.
use Rattle.std.specs.Prelude.{◌≡◌, ◌≢◌, ℕ, ◌<◌}
use Rattle.std.proofs.Common.{arith, sym, subst, ⊎_elim}
use Rattle.std.proofs.lemmas.Bool.{cases_eq}

pub each-lane : (holds : ℕ → Type 0) → holds 0 → holds 1 → holds 2 → holds 3 → (k : ℕ) → k < 4 → holds k
each-lane holds first second third fourth k below = ⊎_elim
    (λ (at : k ≡ 0). subst holds (sym at) first)
    (λ (past : k ≢ 0). ⊎_elim
    (λ (at : k ≡ 1). subst holds (sym at) second)
    (λ (past_one : k ≢ 1). ⊎_elim
    (λ (at : k ≡ 2). subst holds (sym at) third)
    (λ (past_two : k ≢ 2). let at : k ≡ 3 = omega arith in subst holds (sym at) fourth)
    (cases_eq k 2))
    (cases_eq k 1))
    (cases_eq k 0)
