-- The plan of a cut: which cell of a recorder is looked at next, from what was told and from the looks so far alone. (This
-- project's profile.)
use Rattle.std.specs.Prelude.{◌≡◌, ℕ, ◌+◌, ◌-◌, ◌==◌, ◌&&◌, ◌++◌, Bool, true, false, not, if◌then◌else◌, List, [], ◌∷◌, Option, Some, None, nat_lt, slice_index, zero, suc}
use Rattle.model_history.specs.declared.op_id.OpId.{OpId}
use Rattle.live_cut_plan.specs.declared.cell.Cell.{Cell}
use Rattle.live_cut_plan.specs.declared.cell.Cell.TheVariants.{Return, Call}

abbrev pub return_cell : ℕ → ℕ → Cell
return_cell s i = Return record { session = s; index = i }

abbrev pub call_cell : ℕ → ℕ → Cell
call_cell s i = Call record { session = s; index = i }

abbrev pub same_op : OpId → OpId → Bool
same_op a b = (a.session == b.session) && (a.index == b.index)

abbrev pub same_cell : Cell → Cell → Bool
same_cell (Return a) (Return b) = same_op a b
same_cell (Return a) (Call b) = false
same_cell (Call a) (Return b) = false
same_cell (Call a) (Call b) = same_op a b

-- a look: at which cell, and whether it was full
abbrev pub Look : Type 0
Look = Cell × Bool

-- whether a cell was seen full by the first look at it, and none where it was not looked at
abbrev pub seen_at : List Look → Cell → Option Bool
seen_at [] c = None
seen_at (l ∷ ls) c = if same_cell l.0 c then Some l.1 else seen_at ls c

abbrev pub was_read : Option Bool → Bool
was_read None = false
was_read (Some b) = true

abbrev pub was_full : Option Bool → Bool
was_full None = false
was_full (Some b) = b

-- a plan: so many lanes of so many places, how many operations of each lane were told of, and the looks so far, oldest first
pub record Plan : Type 0 where
  pub lanes : ℕ
  pub cap : ℕ
  pub told : List ℕ
  pub looks : List Look

-- the first of so many places from i on that fails the test, or the place behind them
abbrev pub first_failing : (ℕ → Bool) → ℕ → ℕ → ℕ
first_failing test i zero = i
first_failing test i (suc n) = if test i then first_failing test (i + 1) n else i

-- the last place below n that fails the test
abbrev pub last_failing : (ℕ → Bool) → ℕ → Option ℕ
last_failing test zero = None
last_failing test (suc n) = if test n then last_failing test n else Some n

-- of so many lanes from s on, the first cell that is named
abbrev pub or_else : Option Cell → Option Cell → Option Cell
or_else None later = later
or_else (Some c) later = Some c

abbrev pub first_named : (ℕ → Option Cell) → ℕ → ℕ → Option Cell
first_named f s zero = None
first_named f s (suc n) = or_else (f s) (first_named f (s + 1) n)

abbrev pub named_at : (ℕ → Cell) → Option ℕ → Option Cell
named_at cell None = None
named_at cell (Some i) = Some (cell i)

module _ (p : Plan) where
  -- how many operations of a lane were told of
  abbrev pub told_of : ℕ → ℕ
  told_of s = slice_index p.told s

  -- how many returns of a lane were found: those that were told of, which count as full, and behind them those up to the
  -- first that was not found full. The end of the lane counts as empty
  abbrev pub returns_found : ℕ → ℕ
  returns_found s = first_failing (λ i. was_full (seen_at p.looks (return_cell s i))) (told_of s) (p.cap - told_of s)

  -- how many calls of a lane were found: those whose returns were found, and behind them those up to the first that was not
  -- found full
  abbrev pub calls_found : ℕ → ℕ
  calls_found s = first_failing (λ i. was_full (seen_at p.looks (call_cell s i))) (returns_found s) (p.cap - returns_found s)

  -- the cell at this place, where the lane has it and it was not looked at
  abbrev pub unread_at : (ℕ → Cell) → ℕ → Option Cell
  unread_at cell i = if nat_lt i p.cap && not (was_read (seen_at p.looks (cell i))) then Some (cell i) else None

  -- the next return cell of a lane: of those that were told of the last that was not looked at, else the first that was not
  -- found full
  abbrev pub next_return : ℕ → Option Cell
  next_return s = or_else (named_at (return_cell s) (last_failing (λ i. was_read (seen_at p.looks (return_cell s i))) (told_of s))) (unread_at (return_cell s) (returns_found s))

  -- the next call cell of a lane: the first that was not found full, from the first on whose return was not found
  abbrev pub next_call : ℕ → Option Cell
  next_call s = unread_at (call_cell s) (calls_found s)

  -- the cell that is looked at next: the return cells of all lanes, lane by lane, and only then the call cells
  abbrev pub next_cell : Option Cell
  next_cell = or_else (first_named next_return 0 p.lanes) (first_named next_call 0 p.lanes)

-- a plan before its first look
abbrev pub fresh_plan : ℕ → ℕ → List ℕ → Plan
fresh_plan k cap told = record { lanes = k; cap = cap; told = told; looks = [] }

-- a plan after one more look at this cell, if there is one
abbrev pub looked_at : Plan → Option Cell → Bool → Plan
looked_at p None full = p
looked_at p (Some c) full = record { lanes = p.lanes; cap = p.cap; told = p.told; looks = p.looks ++ (c, full) ∷ [] }

-- a plan after more looks
abbrev pub after_looks : Plan → List Look → Plan
after_looks p [] = p
after_looks p (l ∷ ls) = after_looks (looked_at p (Some l.0) l.1) ls

-- each of these looks is at the cell that the plan names after the ones before
abbrev pub Follows : Plan → List Look → Type 0
Follows p [] = Unit {0}
Follows p (l ∷ ls) = (next_cell p ≡ Some l.0) × Follows (looked_at p (Some l.0) l.1) ls

-- no cell is next
abbrev pub IsFinished : Plan → Type 0
IsFinished p = next_cell p ≡ None
