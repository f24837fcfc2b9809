-- What the sessions and sealers of a running world keep, and that it is what happened.
use Rattle.std.specs.Prelude.{◌≡◌, ℕ, ◌+◌, ◌≤◌, Bool, true, List, [], ◌∷◌, ◌++◌, length, take, Option, Some, None, slice_get, slice_index, slice_index_or, slice_set, nat_lt, zero, suc}
use Rattle.model_history.specs.declared.limits.TheConstants.{MAX_OPERATIONS, MAX_SESSIONS}
use Rattle.model_history.specs.History.{HistoryValue}
use Rattle.live_cut_plan.specs.declared.cell.Cell.{Cell}
use Rattle.live_cut_plan.specs.declared.cell.Cell.TheVariants.{Return, Call}
use Rattle.live_cut_plan.specs.Plans.{Plan, fresh_plan, after_looks, looked_at, next_cell, returns_found, calls_found, Follows}
use Rattle.live_cut_plan.specs.Walks.{Stands}
use Rattle.live_cut_plan.specs.Steps.PlanStates.{PlanState, state_next}
use Rattle.live_seals.specs.Runs.{Event, begun, ended, sealers, looks, operations, IsRun}
use Rattle.live_simulation.specs.declared.step.StepOf.{StepOf}
use Rattle.live_simulation.specs.declared.reply.ReplyOf.{ReplyOf}
use Rattle.live_simulation.specs.Happened.{event}
use Rattle.live_simulation.specs.LaneReplies.{IsLaneReply}

-- a start, the calls and returns of each session, and the plan of each sealer
pub record State (S C R : Type 0) : Type 0 where
  pub start : S
  pub lanes : List (List C × List R)
  pub plans : List PlanState

-- what a session keeps: each return fits its call
pub record IsLane {C R : Type 0} (fits : C → R → Bool) (lane : List C × List R) : Type 0 where
  pub short : length lane.0 ≤ MAX_OPERATIONS
  pub ended_once : length lane.1 ≤ length lane.0
  pub fitting : (i : ℕ) (c : C) (r : R) → slice_get lane.0 i ≡ Some c → slice_get lane.1 i ≡ Some r → fits c r ≡ true

module _ {S C R : Type 0} where
  -- the calls and returns of a session, none where there is no such session
  abbrev pub lane_of : State S C R → ℕ → List C × List R
  lane_of w s = slice_index_or w.lanes s ([], [])

  -- what a state keeps
  pub record IsState (is_start : S → Type 0) (fits : C → R → Bool) (w : State S C R) : Type 0 where
    pub start : is_start w.start
    pub few : length w.lanes ≤ MAX_SESSIONS
    pub each : (s : ℕ) → IsLane fits (lane_of w s)

  -- after a session's calls and returns became these
  abbrev pub with_lane : State S C R → ℕ → List C × List R → State S C R
  with_lane w s lane = record { start = w.start; lanes = slice_set w.lanes s lane; plans = w.plans }

  abbrev pub with_call : State S C R → ℕ → C → State S C R
  with_call w s c = with_lane w s ((lane_of w s).0 ++ c ∷ [], (lane_of w s).1)

  abbrev pub with_return : State S C R → ℕ → R → State S C R
  with_return w s r = with_lane w s ((lane_of w s).0, (lane_of w s).1 ++ r ∷ [])

  -- after one more sealer started, and after a sealer's plan became this
  abbrev pub with_plan : State S C R → PlanState → State S C R
  with_plan w st = record { start = w.start; lanes = w.lanes; plans = w.plans ++ st ∷ [] }

  abbrev pub with_look : State S C R → ℕ → PlanState → State S C R
  with_look w z st = record { start = w.start; lanes = w.lanes; plans = slice_set w.plans z st }

  -- the cell is full
  abbrev pub is_full_in : State S C R → Cell → Bool
  is_full_in w (Return o) = nat_lt o.index (length (lane_of w o.session).1)
  is_full_in w (Call o) = nat_lt o.index (length (lane_of w o.session).0)

  -- one count for each session, and none is told of more operations than it ended
  abbrev pub IsTellableIn : State S C R → List ℕ → Type 0
  IsTellableIn w told = (length told ≡ length w.lanes) × ((s : ℕ) → slice_index told s ≤ length (lane_of w s).1)

  -- what a plan found of a session, and of so many sessions from s on
  abbrev pub found_lane : State S C R → Plan → ℕ → List (C × Option R)
  found_lane w p s = operations (take (calls_found p s) (lane_of w s).0) (take (returns_found p s) (lane_of w s).1)

  abbrev pub found_lanes : State S C R → Plan → ℕ → ℕ → List (List (C × Option R))
  found_lanes w p s zero = []
  found_lanes w p s (suc n) = found_lane w p s ∷ found_lanes w p (s + 1) n

  -- the history that a plan found
  abbrev pub found_in : State S C R → Plan → HistoryValue S C R
  found_in w p = (w.start, found_lanes w p 0 (length w.lanes))

-- the cell that is next in a plan, where there is a plan
abbrev pub next_in : Option PlanState → Option Cell
next_in None = None
next_in (Some st) = state_next st

-- a plan in which no cell is next
abbrev pub if_done : PlanState → Option Cell → Option PlanState
if_done st None = Some st
if_done st (Some cell) = None

abbrev pub done_in : Option PlanState → Option PlanState
done_in None = None
done_in (Some st) = if_done st (state_next st)

module _ {C R : Type 0} (k : ℕ) (es : List (Event C R)) where
  -- a run in which each look was at the cell that was next in the sealer's plan
  pub record IsRecorded : Type 0 where
    pub run : IsRun k MAX_OPERATIONS es
    pub follows : (z : ℕ) (told : List ℕ) → slice_get (sealers es) z ≡ Some told → Follows (fresh_plan k MAX_OPERATIONS told) (looks z es)

-- the state is the one behind these events
pub record Shows {S C R : Type 0} (start : S) (k : ℕ) (es : List (Event C R)) (w : State S C R) : Type 0 where
  pub begins : w.start ≡ start
  pub many : length w.lanes ≡ k
  pub lanes : (s : ℕ) → lane_of w s ≡ (begun s es, ended s es)
  pub recorded : IsRecorded k es
  pub as_many : length w.plans ≡ length (sealers es)
  pub plans : (z : ℕ) (st : PlanState) (told : List ℕ) → slice_get w.plans z ≡ Some st → slice_get (sealers es) z ≡ Some told
      → Stands st (after_looks (fresh_plan k MAX_OPERATIONS told) (looks z es))

-- one event more, where there is one
abbrev pub after : {A : Type 0} → List A → Option A → List A
after es None = es
after es (Some e) = es ++ e ∷ []

-- from all that may have happened where this was the old state, the reply is that of the step, and the new state is the one
-- behind it
abbrev pub Takes : {S C R : Type 0} → (C → R → Bool) → StepOf C R → State S C R → ReplyOf (HistoryValue S C R) → State S C R → Type 0
Takes {S} {C} {R} fits step old reply new =
    (start : S) (k : ℕ) (es : List (Event C R)) → Shows start k es old
    → IsLaneReply fits start k es step reply × Shows start k (after es (event step reply)) new

-- one more look of a sealer: its plan takes in what was found
abbrev pub Gave : {S C R : Type 0} → State S C R → ℕ → Bool → State S C R → Type 0
Gave old z full new =
    (st : PlanState) → slice_get old.plans z ≡ Some st
    → (next : PlanState) × (new ≡ with_look old z next) × ((p : Plan) → Stands st p → Stands next (looked_at p (next_cell p) full))
