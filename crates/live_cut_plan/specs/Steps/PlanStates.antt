-- What a plan keeps of its looks.
use Rattle.std.specs.Prelude.{ℕ, ◌+◌, ◌-◌, ◌&&◌, Bool, true, false, not, if◌then◌else◌, List, [], ◌∷◌, Option, Some, None, nat_lt, zero, suc}
use Rattle.live_cut_plan.specs.declared.cell.Cell.{Cell}
use Rattle.live_cut_plan.specs.declared.lane_plan.LanePlan.{LanePlan}
use Rattle.live_cut_plan.specs.Plans.{return_cell, call_cell, named_at, or_else}

-- so many places in each lane, and what was found of each
pub record PlanState : Type 0 where
  pub cap : ℕ
  pub lanes : List LanePlan

abbrev pub fresh_lane : ℕ → LanePlan
fresh_lane told = record { unread = told; returns = told; returns_over = false; calls = 0; calls_over = false }

-- the place behind what was found, where the lane has it and it was not found empty
abbrev pub place_behind : ℕ → ℕ → Bool → Option ℕ
place_behind cap found over = if nat_lt found cap && not over then Some found else None

-- the last of the places that are unread, else the place behind
abbrev pub unread_or : ℕ → Option ℕ → Option ℕ
unread_or zero behind = behind
unread_or (suc n) behind = Some n

abbrev pub return_place : ℕ → LanePlan → Option ℕ
return_place cap l = unread_or l.unread (place_behind cap l.returns l.returns_over)

abbrev pub call_place : ℕ → LanePlan → Option ℕ
call_place cap l = if nat_lt l.returns cap then place_behind cap (l.returns + l.calls) l.calls_over else None

abbrev pub after_unread : ℕ → Bool → LanePlan → LanePlan
after_unread (suc n) full l = record l { unread = n }
after_unread zero true l = record l { returns = l.returns + 1 }
after_unread zero false l = record l { returns_over = true }

-- the lane after one more look at its next return cell, and at its next call cell
abbrev pub after_return : Bool → LanePlan → LanePlan
after_return full l = after_unread l.unread full l

abbrev pub after_call : Bool → LanePlan → LanePlan
after_call true l = record l { calls = l.calls + 1 }
after_call false l = record l { calls_over = true }

-- the first cell that a lane names, of lanes from s on
abbrev pub first_of : (ℕ → LanePlan → Option Cell) → ℕ → List LanePlan → Option Cell
first_of f s [] = None
first_of f s (l ∷ ls) = or_else (f s l) (first_of f (s + 1) ls)

abbrev pub return_of : ℕ → ℕ → LanePlan → Option Cell
return_of cap s l = named_at (return_cell s) (return_place cap l)

abbrev pub call_of : ℕ → ℕ → LanePlan → Option Cell
call_of cap s l = named_at (call_cell s) (call_place cap l)

-- the cell that is next
abbrev pub state_next : PlanState → Option Cell
state_next st = or_else (first_of (return_of st.cap) 0 st.lanes) (first_of (call_of st.cap) 0 st.lanes)

-- how many looks are left at most
abbrev pub if_not : Bool → ℕ → ℕ
if_not true n = 0
if_not false n = n

abbrev pub lane_left : ℕ → LanePlan → ℕ
lane_left cap l = l.unread + if_not l.returns_over (1 + (cap - l.returns)) + if_not l.calls_over (1 + (cap - (l.returns + l.calls)))

abbrev pub left_of : ℕ → List LanePlan → ℕ
left_of cap [] = 0
left_of cap (l ∷ ls) = lane_left cap l + left_of cap ls

abbrev pub looks_left : PlanState → ℕ
looks_left st = left_of st.cap st.lanes
