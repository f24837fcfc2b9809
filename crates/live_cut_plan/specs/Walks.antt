-- What represents a plan, and what a walk does. (This project's profile.)
use Rattle.std.specs.Prelude.{◌≡◌, ℕ, ◌+◌, ◌<◌, ◌≤◌, Bool, true, false, List, ◌++◌, length, Option, Some, None, slice_get, slice_index}
use Rattle.live_cut_plan.specs.declared.lane_plan.LanePlan.{LanePlan}
use Rattle.live_cut_plan.specs.Plans.{Look, Plan, seen_at, was_read, return_cell, call_cell, told_of, fresh_plan, after_looks, Follows, IsFinished}
use Rattle.live_cut_plan.specs.Steps.PlanStates.{PlanState}

-- of what was seen, one for each place, those from a place on: full up to `found`, and behind it either none, or empty at once
pub record IsColumn (answers : ℕ → Option Bool) (from found : ℕ) (over : Bool) : Type 0 where
  pub from_on : from ≤ found
  pub full : (i : ℕ) → from ≤ i → i < found → answers i ≡ Some true
  pub goes_on : over ≡ false → answers found ≡ None
  pub ended : over ≡ true → answers found ≡ Some false
  pub behind : (i : ℕ) → found < i → answers i ≡ None

-- what a lane keeps of what was seen of its return cells and of its call cells
pub record IsLanePlan (cap told : ℕ) (returns calls : ℕ → Option Bool) (l : LanePlan) : Type 0 where
  pub told_of : told ≤ cap
  pub left : l.unread ≤ told
  pub unread : (i : ℕ) → i < l.unread → was_read (returns i) ≡ false
  pub read : (i : ℕ) → l.unread ≤ i → i < told → was_read (returns i) ≡ true
  pub within : l.returns + l.calls ≤ cap
  pub returned : IsColumn returns told l.returns l.returns_over
  pub called : IsColumn calls l.returns (l.returns + l.calls) l.calls_over
  pub quiet : l.returns_over ≡ false → (l.calls ≡ 0) × (l.calls_over ≡ false) × ((i : ℕ) → calls i ≡ None)

-- a state represents a plan: it keeps of each lane what the looks of the plan told
pub record Stands (st : PlanState) (p : Plan) : Type 0 where
  pub many : length st.lanes ≡ p.lanes
  pub cap : st.cap ≡ p.cap
  pub lanes : (s : ℕ) (l : LanePlan) → slice_get st.lanes s ≡ Some l → IsLanePlan p.cap (told_of p s) (λ i. seen_at p.looks (return_cell s i)) (λ i. seen_at p.looks (call_cell s i)) l

-- a state represents looks that a new plan asked for, each at the cell that was next
pub record StandsForLooks (st : PlanState) : Type 0 where
  pub lanes : ℕ
  pub cap : ℕ
  pub told : List ℕ
  pub looks : List Look
  pub many : length told ≡ lanes
  pub within : (s : ℕ) → slice_index told s ≤ cap
  pub follows : Follows (fresh_plan lanes cap told) looks
  pub stands : Stands st (after_looks (fresh_plan lanes cap told) looks)

-- the list of looks grew by looks at the cells that the plan names from what they saw, in this order, and the plan took
-- them in
abbrev pub Walks : PlanState → List Look → PlanState → List Look → Type 0
Walks st looks st' looks' = (ls : List Look) × (looks' ≡ looks ++ ls) × ((p : Plan) → Stands st p → Follows p ls × Stands st' (after_looks p ls))

-- and no cell is next
abbrev pub WalksToTheEnd : PlanState → List Look → PlanState → List Look → Type 0
WalksToTheEnd st looks st' looks' = (ls : List Look) × (looks' ≡ looks ++ ls) × ((p : Plan) → Stands st p → Follows p ls × Stands st' (after_looks p ls) × IsFinished (after_looks p ls))
