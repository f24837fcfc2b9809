-- How many returns and calls of a lane a plan found, of what represents the plan.
use Rattle.std.proofs.Common.{◌≡◌, ℕ, ◌+◌, ◌≤◌, sym, subst}
use Rattle.std.specs.Prelude.{Some, slice_get}
use Rattle.live_cut_plan.specs.declared.lane_plan.LanePlan.{LanePlan}
use Rattle.live_cut_plan.specs.Plans.{Plan, seen_at, return_cell, call_cell, told_of, returns_found, calls_found}
use Rattle.live_cut_plan.specs.Walks.{IsLanePlan, Stands}
use Rattle.live_cut_plan.specs.Steps.PlanStates.{PlanState}
use Rattle.live_cut_plan.proofs.LanePlans.{returns_are, calls_are}

module _ (st : PlanState) (p : Plan) (stands : Stands st p) (s : ℕ) (l : LanePlan) (at : slice_get st.lanes s ≡ Some l) where
  lane : IsLanePlan p.cap (told_of p s) (λ i. seen_at p.looks (return_cell s i)) (λ i. seen_at p.looks (call_cell s i)) l
  lane = stands.lanes s l at

  pub returns_counted : returns_found p s ≡ l.returns
  returns_counted = returns_are p.cap (told_of p s) (λ i. seen_at p.looks (return_cell s i)) (λ i. seen_at p.looks (call_cell s i)) l lane

  pub calls_counted : calls_found p s ≡ l.returns + l.calls
  calls_counted = calls_are p.cap (told_of p s) (λ i. seen_at p.looks (return_cell s i)) (λ i. seen_at p.looks (call_cell s i)) l lane (returns_found p s) returns_counted

  pub found_within : l.returns + l.calls ≤ st.cap
  found_within = subst (λ (n : ℕ). l.returns + l.calls ≤ n) (sym stands.cap) lane.within
