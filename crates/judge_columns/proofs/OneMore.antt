-- Facts that come one after the other.
use Rattle.std.specs.Prelude.{◌≡◌, ◌≢◌, ◌⊎◌, ◌↔◌, ℕ, ◌+◌, ◌<◌}
use Rattle.std.proofs.Common.{arith, sym, subst, inl, inr, ⊎_elim}
use Rattle.std.proofs.lemmas.Bool.{cases_eq}

module _ (first old : Type 0) (P : ℕ → Type 0) (n : ℕ) (was : old ↔ (first ⊎ ((k : ℕ) × (k < n) × P k))) where
  pub one-more : (new : Type 0) → new ↔ (old ⊎ P n) → new ↔ (first ⊎ ((k : ℕ) × (k < n + 1) × P k))
  one-more new more = (
    (λ now. ⊎_elim
        (λ (before : old). ⊎_elim
        (λ (at_first : first). inl at_first)
        (λ (some : (k : ℕ) × (k < n) × P k). let below = some.1 in inr (some.0, omega arith, some.2))
        (was.0 before))
        (λ (here : P n). inr (n, omega arith, here))
        (more.0 now)),
    λ either. more.1 (⊎_elim
        (λ (at_first : first). inl (was.1 (inl at_first)))
        (λ (some : (k : ℕ) × (k < n + 1) × P k). ⊎_elim
        (λ (same : some.0 ≡ n). inr (subst P same some.2))
        (λ (apart : some.0 ≢ n). let below = some.1 in inl (was.1 (inr (some.0, omega arith, some.2))))
        (cases_eq some.0 n))
        either),
  )

  pub one-same : ¬ P n → old ↔ (first ⊎ ((k : ℕ) × (k < n + 1) × P k))
  one-same none = one-more old ((λ before. inl before), λ either. ⊎_elim (λ (before : old). before) (λ (here : P n). absurd (none here)) either)

  pub one-whole : (m : ℕ) → m ≡ n → old ↔ (first ⊎ ((k : ℕ) × (k < m) × P k))
  one-whole m same = subst (λ (i : ℕ). old ↔ (first ⊎ ((k : ℕ) × (k < i) × P k))) (sym same) was

-- the same of bits up to one
module _ (old : Type 0) (Q : ℕ → Type 0) (bit k : ℕ) (was : old ↔ ((k < bit) × Q k)) where
  pub bit-more : (new here : Type 0) → new ↔ (old ⊎ (here × (k ≡ bit))) → here ↔ Q bit → new ↔ ((k < bit + 1) × Q k)
  bit-more new here more is = (
    (λ now. ⊎_elim
        (λ (before : old). let both = was.0 before in let below = both.0 in (omega arith, both.1))
        (λ (new_one : here × (k ≡ bit)). let same = new_one.1 in (omega arith, subst Q (sym same) (is.0 new_one.0)))
        (more.0 now)),
    λ both. more.1 (⊎_elim
        (λ (same : k ≡ bit). inr (is.1 (subst Q same both.1), same))
        (λ (apart : k ≢ bit). let below = both.0 in inl (was.1 (omega arith, both.1)))
        (cases_eq k bit)),
  )

  pub bit-same : ¬ Q bit → old ↔ ((k < bit + 1) × Q k)
  bit-same none = (
    (λ before. let both = was.0 before in let below = both.0 in (omega arith, both.1)),
    λ both. ⊎_elim
        (λ (same : k ≡ bit). absurd (none (subst Q same both.1)))
        (λ (apart : k ≢ bit). let below = both.0 in was.1 (omega arith, both.1))
        (cases_eq k bit),
  )
