-- The cells of a recorder, and what notes tell of them. (This project's profile.)
use Rattle.std.specs.Prelude.{◌≡◌, ℕ, ◌≤◌, Bool, true, List, length, take, map, Option, Some, None, option_map}
use Rattle.std.specs.List.{filter_map}
use Rattle.once_cell.specs.Once.{Agrees}
use Rattle.model_history.specs.declared.limits.TheConstants.{MAX_OPERATIONS}
use Rattle.model_history.specs.declared.advice.Advice.{Advice}

-- the names of a lane's cells: for each place one cell for a call and one for its return
pub record Cells : Type 0 where
  pub calls : List ℕ
  pub returns : List ℕ

-- a lane has as many cells of either kind, at most 256
pub record IsLane (cells : Cells) : Type 0 where
  pub even : length cells.returns ≡ length cells.calls
  pub short : length cells.calls ≤ MAX_OPERATIONS

-- a return record: the call, and its return with the store's advice once it was given
abbrev pub Entry : Type 0 → Type 0 → Type 0
Entry C R = C × Option (R × Advice)

-- an operation that has returned: its call, its return and the store's advice
abbrev pub Returned : Type 0 → Type 0 → Type 0
Returned C R = C × R × Advice

module _ {C R : Type 0} where
  -- the operation that a return record shows
  abbrev pub completed : Entry C R → Option (Returned C R)
  completed e = option_map (λ (x : R × Advice). (e.0, x.0, x.1)) e.1

  -- the operation that is known of a return cell
  abbrev pub shown : Option (Entry C R) → Option (Returned C R)
  shown None = None
  shown (Some e) = completed e

  -- its return is of a kind that the call may have
  abbrev pub IsFitting : (C → R → Bool) → Entry C R → Type 0
  IsFitting fits (c, None) = Unit {0}
  IsFitting fits (c, Some (r, advice)) = fits c r ≡ true

-- notes: for each the name of its cell and what is known of it; and for how many more there is room
pub record Notes (A : Type 0) : Type 0 where
  pub list : List (ℕ × Option A)
  pub room : ℕ

-- what a note knows
abbrev pub known : {A : Type 0} → ℕ × Option A → Option A
known n = n.1

-- nothing is known, as before
abbrev pub IsStillUnknown : {A : Type 0} → Option A → Option A → Type 0
IsStillUnknown before after = (before ≡ None) × (after ≡ None)

-- a value is known, which is the one that was known before, if one was
abbrev pub IsKnownAs : {A : Type 0} → A → Option A → Option A → Type 0
IsKnownAs value before after = (after ≡ Some value) × Agrees before value

-- the notes are of the first of these cells, and show these values
pub record Tells {A B : Type 0} (show : ℕ × Option A → Option B) (cells : List ℕ) (notes : List (ℕ × Option A)) (values : List B) : Type 0 where
  pub named : map (λ (n : ℕ × Option A). n.0) notes ≡ take (length notes) cells
  pub shows : map show notes ≡ map Some values

module _ {C R : Type 0} where
  -- the operation that a note of a return cell shows
  abbrev pub operation : ℕ × Option (Entry C R) → Option (Returned C R)
  operation n = shown n.1

  -- the operations that such notes show
  abbrev pub operations : List (ℕ × Option (Entry C R)) → List (Returned C R)
  operations notes = filter_map operation notes
