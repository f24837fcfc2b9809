-- Lists that stand in one list, each from where the one before it ends.
use Rattle.std.specs.Prelude.{◌≡◌, ℕ, ◌≤◌, List, [], ◌∷◌}
use Rattle.std.specs.List.{slice_range}
use Rattle.std.proofs.Common.{zero, suc}

-- the parts of xs that end at these places, the first of them from `from` on
abbrev pub cut : {A : Type 0} → List A → ℕ → List ℕ → List (List A)
cut xs from [] = []
cut xs from (end ∷ ends) = slice_range xs from end ∷ cut xs end ends

-- where the i-th of these parts begins
abbrev pub start_of : ℕ → List ℕ → ℕ → ℕ
start_of from ends zero = from
start_of from [] (suc i) = from
start_of from (end ∷ ends) (suc i) = start_of end ends i

-- the places do not fall, from `from` on, and the last of them is `last`
abbrev pub RisesTo : ℕ → List ℕ → ℕ → Type 0
RisesTo from [] last = from ≡ last
RisesTo from (end ∷ ends) last = (from ≤ end) × RisesTo end ends last
