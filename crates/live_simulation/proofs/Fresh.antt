-- A world before its first step.
use Rattle.std.proofs.Common.{◌≡◌, ℕ, zero, suc, ◌≤◌, List, [], ◌∷◌, ◌++◌, length, get_or, refl, sym, ap, arith, subst}
use Rattle.std.specs.Prelude.{Bool, Some, slice_get}
use Rattle.std.proofs.lemmas.List.{get_or_past}
use Rattle.live_cut_plan.specs.Steps.PlanStates.{PlanState}
use Rattle.live_simulation.specs.Steps.Recordings.{State, IsLane, IsState, Shows, lane_of}
use Rattle.live_simulation.proofs.Kept.{empty_lane}
use Rattle.live_simulation.proofs.RunsRecorded.{recorded_none}

-- one more that is as the others
pub all_more : {A : Type 0} (xs : List A) (d : A) → ((s : ℕ) → get_or xs s d ≡ d) → (s : ℕ) → get_or (xs ++ d ∷ []) s d ≡ d
all_more [] d e zero = refl
all_more [] d e (suc s) = get_or_past [] s d (omega arith)
all_more (x ∷ xs) d e zero = e zero
all_more (x ∷ xs) d e (suc s) = all_more xs d (λ t. e (suc t)) s

module _ {S C R : Type 0} (w : State S C R) (quiet : (s : ℕ) → lane_of w s ≡ ([], [])) where
  pub fresh_shows : (start : S) (k : ℕ) → w.start ≡ start → length w.lanes ≡ k → w.plans ≡ [] → Shows start k [] w
  fresh_shows start k begins many none = record {
    begins = begins;
    many = many;
    lanes = quiet;
    recorded = recorded_none k;
    as_many = ap length none;
    plans = λ z st told at start_at. absurd (nothing z st (subst (λ (ps : List PlanState). slice_get ps z ≡ Some st) none at));
  }
    where
      nothing : (z : ℕ) (st : PlanState) → slice_get {X = PlanState} [] z ≡ Some st → ⊥
      nothing zero st h = cc
      nothing (suc z) st h = cc

  pub fresh_kept : (is_start : S → Type 0) (fits : C → R → Bool) → is_start w.start → length w.lanes ≤ 16 → IsState is_start fits w
  fresh_kept is_start fits start few = record {
    start = start;
    few = few;
    each = λ s. subst (λ (l : List C × List R). IsLane fits l) (sym (quiet s)) (empty_lane fits);
  }
