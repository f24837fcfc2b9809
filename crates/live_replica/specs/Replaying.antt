-- Calls that queries may stand between. (This project's profile.)
use Rattle.std.specs.Prelude.{◌≡◌, Bool, not, List, filter}

-- the same calls in the same order, but for queries
abbrev pub SameUpdates : {C : Type 0} → (C → Bool) → List C → List C → Type 0
SameUpdates query cs ds = filter (λ c. not (query c)) cs ≡ filter (λ c. not (query c)) ds

-- what is answered to a call after these calls, also where any queries stand between them
abbrev pub IsAnswer : {S C R : Type 0} → (C → Bool) → (S → List C → C → R) → S → List C → C → R → Type 0
IsAnswer {S} {C} {R} query answer start cs call r = (ds : List C) → SameUpdates query cs ds → r ≡ answer start ds call
