-- Sessions of which each waits for another make a cycle.
use Rattle.std.specs.Prelude.{ℕ, ◌<◌, ◌≤◌, ◌≡◌}
use Rattle.std.proofs.Common.{zero, suc, arith, sym, subst, ⊎_elim}
use Rattle.std.proofs.lemmas.Bool.{cases_lt}
use Rattle.model_history.specs.declared.op_id.OpId.{OpId}
use Rattle.order_causal.proofs.RepeatsLaws.{repeats}

module _ (IsOpen : ℕ → Type 0) (node : ℕ → OpId) (related : OpId → OpId → Type 0) (k : ℕ)
    (few : (s : ℕ) → IsOpen s → s < k)
    (waits : (s : ℕ) → IsOpen s → (t : ℕ) × IsOpen t × related (node t) (node s))
    (transitive : (a b c : OpId) → related a b → related b c → related a c) where
  module _ (s : ℕ) (open_s : IsOpen s) where
    -- the sessions that wait for one another, from s on
    line : ℕ → (t : ℕ) × IsOpen t
    line zero = (s, open_s)
    line (suc j) = ((waits (line j).0 (line j).1).0, (waits (line j).0 (line j).1).1)

    line-step : (j : ℕ) → related (node (line (suc j)).0) (node (line j).0)
    unfolding line
    line-step j = (waits (line j).0 (line j).1).2

    line-related : (i j : ℕ) → i < j → related (node (line j).0) (node (line i).0)
    line-related i zero below = absurd (omega arith)
    line-related i (suc j) below = ⊎_elim
        (λ (before : i < j). transitive _ _ _ (line-step j) (line-related i j before))
        (λ (after : j ≤ i). let here : j ≡ i = omega arith in
        subst (λ (n : ℕ). related (node (line (suc j)).0) (node (line n).0)) here (line-step j))
        (cases_lt i j)

    -- some operation is before itself
    pub waiting-cycle : (a : OpId) × related a a
    waiting-cycle =
        let again = repeats k (λ j. (line j).0) (λ j up_to. few (line j).0 (line j).1) in
        let before = line-related again.0 again.1 again.2 in
        (node (line again.0).0, subst (λ (t : ℕ). related (node t) (node (line again.0).0)) (sym again.4) before)
