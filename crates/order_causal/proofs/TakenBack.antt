-- Operations that a walk takes back.
use Rattle.std.specs.Prelude.{◌≡◌, ◌≢◌, ℕ, ◌-◌, ◌<◌, ◌≤◌, List, [], ◌∷◌, ◌++◌}
use Rattle.std.proofs.Common.{arith, get_or, set, sym, subst, ◌∙◌, ⊎_elim}
use Rattle.std.proofs.lemmas.Bool.{cases_eq, cases_lt}
use Rattle.std.proofs.lemmas.List.{get_or_past, get_or-set_same, get_or-set_other, length-set}
use Rattle.order_causal.specs.Topological.{IsTally}
use Rattle.order_causal.specs.Schedules.{placed}
use Rattle.order_causal.proofs.TopologicalLaws.{placed-same}
use Rattle.order_causal.proofs.Walked.{placed-other}

module _ (k : ℕ) (schedule counts : List ℕ) (s : ℕ) (tally : IsTally k (schedule ++ s ∷ []) counts) where
  -- the last operation is counted
  pub pop-counted : 0 < get_or counts s 0
  pop-counted = let is = tally.each s in let more = placed-same schedule s in omega arith

  -- and its session is one of those that are counted
  pub pop-below : s < k
  pop-below = ⊎_elim
      (λ (below : s < k). below)
      (λ (past : k ≤ s).
      let counted = pop-counted in
      let size = tally.size in
      let none = get_or_past counts s 0 (omega arith) in
      absurd (omega arith))
      (cases_lt s k)

  -- without it the counts are those of the schedule before
  pub tally-pop : IsTally k schedule (set counts s (get_or counts s 0 - 1))
  tally-pop = record {
    size = length-set counts s _ ∙ tally.size;
    each = λ t. ⊎_elim
        (λ (same : t ≡ s).
        let below = pop-below in
        let size = tally.size in
        let is = tally.each s in
        let more = placed-same schedule s in
        let here = get_or-set_same counts s (get_or counts s 0 - 1) 0 (omega arith) in
        subst (λ (r : ℕ). get_or (set counts s (get_or counts s 0 - 1)) r 0 ≡ placed schedule r) (sym same) (omega arith))
        (λ (apart : t ≢ s). get_or-set_other counts s t _ 0 apart ∙ tally.each t ∙ placed-other schedule s t apart)
        (cases_eq t s);
  }
