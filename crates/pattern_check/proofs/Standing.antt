-- What stands before what in a list of operations, as a test.
use Rattle.std.proofs.Common.{◌≡◌, ℕ, zero, suc, ◌<◌, ⊎_elim, false, List, [], ◌∷◌, sym, subst, arith}
use Rattle.std.specs.Prelude.{Bool, ◌&&◌, ◌||◌, Some, IsTrue}
use Rattle.std.proofs.lemmas.Bool.{and_from, and_parts, or_left, or_right, or_cases}
use Rattle.model_history.specs.declared.op_id.OpId.{OpId}
use Rattle.order_causal.specs.Orders.{Order, only, StandsAt}
use Rattle.cert_check.proofs.ConvergentLaws.{only-same}
use Rattle.cert_check.proofs.FilteredLaws.{StandBoth}
use Rattle.pattern_check.proofs.ReadPasts.{itself}

-- an operation stands in a list
abbrev stands_in : List OpId → OpId → Bool
stands_in [] b = false
stands_in (c ∷ ops) b = only c b || stands_in ops b

-- an operation stands before another in a list
abbrev pub comes : List OpId → Order
comes [] a b = false
comes (c ∷ ops) a b = (only c a && stands_in ops b) || comes ops a b

is-only : (c a : OpId) → c ≡ a → IsTrue (only c a)
is-only c a same = subst (λ (b : OpId). IsTrue (only c b)) same (itself c)

stands_in-true : (ops : List OpId) (k : ℕ) (b : OpId) → StandsAt ops k b → IsTrue (stands_in ops b)
stands_in-true [] k b at = absurd cc
stands_in-true (c ∷ ops) zero b at = let same : c ≡ b = cc in or_left (only c b) (stands_in ops b) (is-only c b same)
stands_in-true (c ∷ ops) (suc k) b at = or_right (only c b) (stands_in ops b) (stands_in-true ops k b at)

stands_in-from : (ops : List OpId) (b : OpId) → IsTrue (stands_in ops b) → (k : ℕ) × StandsAt ops k b
stands_in-from [] b test = absurd cc
stands_in-from (c ∷ ops) b test =
    ⊎_elim
    (λ (here : IsTrue (only c b)). (0, λ i. Some (sym (only-same c b here) i)))
    (λ (there : IsTrue (stands_in ops b)). let at = stands_in-from ops b there in (suc at.0, at.1))
    (or_cases (only c b) (stands_in ops b) test)

comes-places : (ops : List OpId) (a b : OpId) (j l : ℕ) → j < l → StandsAt ops j a → StandsAt ops l b → IsTrue (comes ops a b)
comes-places [] a b j l below at_a at_b = absurd cc
comes-places (c ∷ ops) a b j zero below at_a at_b = absurd (omega arith)
comes-places (c ∷ ops) a b zero (suc l) below at_a at_b =
    let same : c ≡ a = cc in
    or_left (only c a && stands_in ops b) (comes ops a b)
    (and_from (only c a) (stands_in ops b) (is-only c a same) (stands_in-true ops l b at_b))
comes-places (c ∷ ops) a b (suc j) (suc l) below at_a at_b =
    or_right (only c a && stands_in ops b) (comes ops a b) (comes-places ops a b j l (omega arith) at_a at_b)

pub comes-true : (ops : List OpId) (a b : OpId) → StandBoth ops a b → IsTrue (comes ops a b)
comes-true ops a b (j, l, below, at_a, at_b) = comes-places ops a b j l below at_a at_b

pub comes-from : (ops : List OpId) (a b : OpId) → IsTrue (comes ops a b) → StandBoth ops a b
comes-from [] a b test = absurd cc
comes-from (c ∷ ops) a b test =
    ⊎_elim
    (λ (here : IsTrue (only c a && stands_in ops b)).
    let parts = and_parts (only c a) (stands_in ops b) here in
    let at = stands_in-from ops b parts.1 in
    (0, suc at.0, omega arith, λ i. Some (sym (only-same c a parts.0) i), at.1))
    (λ (there : IsTrue (comes ops a b)).
    let both = comes-from ops a b there in
    let below = both.2 in
    (suc both.0, suc both.1, omega arith, both.3, both.4))
    (or_cases (only c a && stands_in ops b) (comes ops a b) test)
