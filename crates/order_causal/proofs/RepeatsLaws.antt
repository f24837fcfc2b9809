-- More numbers than there are below a bound repeat.
use Rattle.std.specs.Prelude.{◌≡◌, ◌≢◌, ◌⊎◌, ℕ, ◌-◌, ◌<◌, ◌≤◌}
use Rattle.std.proofs.Common.{zero, suc, arith, sym, subst, inl, inr, ⊎_elim, cond, ltb}
use Rattle.std.proofs.lemmas.Bool.{cases_eq, cases_lt}
use Rattle.std.proofs.lemmas.Bool.Decides.{nat_tests}

-- a number is among the first of a sequence, or it is not
look_for : (g : ℕ → ℕ) (x n : ℕ) → ((j : ℕ) × (j < n) × (g j ≡ x)) ⊎ ((j : ℕ) → j < n → g j ≢ x)
look_for g x zero = inr (λ j below. absurd (omega arith))
look_for g x (suc n) = ⊎_elim
    (λ (found : (j : ℕ) × (j < n) × (g j ≡ x)). inl (found.0, omega arith, found.2))
    (λ (none : (j : ℕ) → j < n → g j ≢ x). ⊎_elim
    (λ (last : g n ≡ x). inl (n, omega arith, last))
    (λ (apart : g n ≢ x). inr (λ j below. ⊎_elim
    (λ (before : j < n). none j before)
    (λ (after : n ≤ j). let here : n ≡ j = omega arith in subst (λ (i : ℕ). g i ≢ x) here apart)
    (cases_lt j n)))
    (cases_eq (g n) x))
    (look_for g x n)

-- the numbers without p, moved together
abbrev lower : ℕ → ℕ → ℕ
lower p x = cond (ltb p x) (x - 1) x

lower-below : (p x k : ℕ) → p < suc k → x < suc k → x ≢ p → lower p x < k
lower-below p x k p_below x_below apart = grind (arith, nat_tests)

lower-same : (p x y : ℕ) → x ≢ p → y ≢ p → lower p x ≡ lower p y → x ≡ y
lower-same p x y x_apart y_apart same = grind (arith, nat_tests)

-- two of k + 1 numbers below k are equal
pub repeats : (k : ℕ) (g : ℕ → ℕ) → ((j : ℕ) → j ≤ k → g j < k) → (i j : ℕ) × (i < j) × (j ≤ k) × (g i ≡ g j)
repeats zero g below = let none = below 0 (omega arith) in absurd (omega arith)
repeats (suc k) g below = ⊎_elim
    (λ (found : (j : ℕ) × (j < suc k) × (g (suc j) ≡ g 0)). (0, suc found.0, omega arith, omega arith, sym found.2))
    (λ (none : (j : ℕ) → j < suc k → g (suc j) ≢ g 0).
    let again = repeats k (λ j. lower (g 0) (g (suc j)))
    (λ j up_to. lower-below (g 0) (g (suc j)) k (below 0 (omega arith)) (below (suc j) (omega arith)) (none j (omega arith))) in (
      suc again.0,
      suc again.1,
      omega arith,
      omega arith,
      lower-same (g 0) (g (suc again.0)) (g (suc again.1)) (none again.0 (omega arith)) (none again.1 (omega arith)) again.4,
    ))
    (look_for (λ j. g (suc j)) (g 0) (suc k))
