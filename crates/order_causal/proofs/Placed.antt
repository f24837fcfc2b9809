-- Where a schedule places an operation.
use Rattle.std.specs.Prelude.{◌≡◌, ◌≢◌, ◌==◌, ℕ, ◌+◌, ◌<◌, ◌≤◌, List, [], ◌∷◌, ◌++◌, length, take, Some, slice_get, cond}
use Rattle.std.proofs.Common.{zero, suc, arith, get_or, sym, ap, subst, ◌∙◌, ⊎_elim, take_all, take-take}
use Rattle.std.proofs.lemmas.Bool.{cases_eq, cases_lt}
use Rattle.std.proofs.lemmas.List.{take_more}
use Rattle.std.proofs.lemmas.List.Sums.{sum_by-take-le}
use Rattle.std.proofs.lemmas.Option.{slice_get-get_or}
use Rattle.order_causal.specs.Schedules.{placed}
use Rattle.order_causal.proofs.TopologicalLaws.{placed-same}
use Rattle.order_causal.proofs.Walked.{placed-other}

module _ (schedule : List ℕ) where
  -- a longer front places no less
  pub placed-up : (j k s : ℕ) → j ≤ k → placed (take j schedule) s ≤ placed (take k schedule) s
  placed-up j k s up_to = subst (λ (xs : List ℕ). placed xs s ≤ placed (take k schedule) s) (take-take j k schedule up_to)
      (sum_by-take-le (λ t. cond (t == s) 1 0) (take k schedule) j)

  -- nor does the whole
  pub placed-whole : (k s : ℕ) → placed (take k schedule) s ≤ placed schedule s
  placed-whole k s = sum_by-take-le (λ t. cond (t == s) 1 0) schedule k

  -- what a front places is the next operation at some place before
  pub front-places : (n s i : ℕ) → n ≤ length schedule → i < placed (take n schedule) s
      → (k : ℕ) × (k < n) × (slice_get schedule k ≡ Some s) × (placed (take k schedule) s ≡ i)
  front-places zero s i within below = absurd (omega arith)
  front-places (suc n) s i within below =
      let inside : n < length schedule = omega arith in
      let t : ℕ = get_or schedule n 0 in
      let one : suc n ≡ n + 1 = omega arith in
      let more : take (n + 1) schedule ≡ take n schedule ++ t ∷ [] = take_more schedule n 0 inside in
      let pushed : i < placed (take n schedule ++ t ∷ []) s =
      subst (λ (xs : List ℕ). i < placed xs s) more (subst (λ (m : ℕ). i < placed (take m schedule) s) one below) in
      ⊎_elim
      (λ (before : i < placed (take n schedule) s).
      let found = front-places n s i (omega arith) before in
      let earlier = found.1 in
      (found.0, omega arith, found.2, found.3))
      (λ (after : placed (take n schedule) s ≤ i). ⊎_elim
      (λ (same : t ≡ s).
      let here : i < placed (take n schedule ++ s ∷ []) s = subst (λ (r : ℕ). i < placed (take n schedule ++ r ∷ []) s) same pushed in
      let counted = placed-same (take n schedule) s in
      (n, omega arith, slice_get-get_or schedule n 0 inside ∙ ap (λ (r : ℕ). Some r) same, omega arith))
      (λ (apart : t ≢ s).
      let other : s ≢ t = λ same. apart (sym same) in
      let counted = placed-other (take n schedule) t s other in
      absurd (omega arith))
      (cases_eq t s))
      (cases_lt i (placed (take n schedule) s))

  -- what is placed is the next operation at some place
  pub places : (s i : ℕ) → i < placed schedule s → (k : ℕ) × (slice_get schedule k ≡ Some s) × (placed (take k schedule) s ≡ i)
  places s i below =
      let all : take (length schedule) schedule ≡ schedule = take_all (length schedule) schedule (omega arith) in
      let found = front-places (length schedule) s i (omega arith) (subst (λ (xs : List ℕ). i < placed xs s) (sym all) below) in
      (found.0, found.2, found.3)
