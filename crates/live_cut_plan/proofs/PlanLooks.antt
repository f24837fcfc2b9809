-- A state that represents looks, with one look more.
use Rattle.std.proofs.Common.{◌≡◌, ℕ, ◌≤◌, List, [], ◌∷◌, ◌++◌, length, refl, sym, subst}
use Rattle.std.specs.Prelude.{Bool, Option, Some, None, slice_index}
use Rattle.live_cut_plan.specs.declared.cell.Cell.{Cell}
use Rattle.live_cut_plan.specs.Plans.{Plan, next_cell, looked_at, fresh_plan, after_looks}
use Rattle.live_cut_plan.specs.Walks.{Stands, StandsForLooks}
use Rattle.live_cut_plan.specs.Steps.PlanStates.{PlanState}
use Rattle.live_cut_plan.proofs.Walked.{after_more, follows_more}

pub stands_new : (k cap : ℕ) (told : List ℕ) (st : PlanState) → length told ≡ k → ((s : ℕ) → slice_index told s ≤ cap) → Stands st (fresh_plan k cap told) → StandsForLooks st
stands_new k cap told st many within stands = record { lanes = k; cap = cap; told = told; looks = []; many = many; within = within; follows = tt; stands = stands }

module _ (st new : PlanState) (old : StandsForLooks st) (full : Bool) (rule : (p : Plan) → Stands st p → Stands new (looked_at p (next_cell p) full)) where
  abbrev plan : Plan
  plan = after_looks (fresh_plan old.lanes old.cap old.told) old.looks

  now : Stands new (looked_at plan (next_cell plan) full)
  now = rule plan old.stands

  pub stands_on : StandsForLooks new
  stands_on = by (next_cell plan) refl
    where
      by : (o : Option Cell) → next_cell plan ≡ o → StandsForLooks new
      by None e = record { lanes = old.lanes; cap = old.cap; told = old.told; looks = old.looks; many = old.many; within = old.within; follows = old.follows; stands = subst (λ (x : Option Cell). Stands new (looked_at plan x full)) e now }
      by (Some c) e = record {
        lanes = old.lanes;
        cap = old.cap;
        told = old.told;
        looks = old.looks ++ (c, full) ∷ [];
        many = old.many;
        within = old.within;
        follows = follows_more (fresh_plan old.lanes old.cap old.told) old.looks c full old.follows e;
        stands = subst (λ (q : Plan). Stands new q) (sym (after_more (fresh_plan old.lanes old.cap old.told) old.looks c full)) (subst (λ (x : Option Cell). Stands new (looked_at plan x full)) e now);
      }
