-- What follows for how much a schedule places.
use Rattle.std.specs.Prelude.{◌≡◌, ◌==◌, ℕ, ◌+◌, List, [], ◌∷◌, ◌++◌, cond}
use Rattle.std.proofs.Common.{ap, ◌∙◌, refl}
use Rattle.std.proofs.lemmas.Bool.{eq-eqb}
use Rattle.std.proofs.lemmas.List.Sums.{sum_by_push}
use Rattle.order_causal.specs.Schedules.{placed}

-- one operation more of its session is placed
pub placed-same : (schedule : List ℕ) (s : ℕ) → placed (schedule ++ s ∷ []) s ≡ placed schedule s + 1
placed-same schedule s =
    sum_by_push (λ t. cond (t == s) 1 0) schedule s ∙ ap (λ b. placed schedule s + cond b 1 0) (eq-eqb s s refl)
