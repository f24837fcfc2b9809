-- Which refusal comes first where a JSON value is read as a history: its shape, its name, the number of its sessions, then
-- each session in order (a list, not too long, and each operation in order), and its start at last.
use Rattle.std.specs.Prelude.{ℕ, zero, suc, List, [], ◌∷◌, length, take, Bool, true, false, nat_lt, Option, Some, None, option_and_then, option_map, slice_get, is_some, if◌then◌else◌}
use Rattle.std.specs.Option.{option_or}
use Rattle.std.specs.List.{list_any}
use Rattle.model_history.specs.declared.limits.TheConstants.{MAX_OPERATIONS, MAX_SESSIONS}
use Rattle.serde_json.specs.Data.{Data}
use Rattle.serde_json.specs.Find.{as_str}
use Rattle.json_histories.specs.Json.{elements}
use Rattle.model_history.specs.declared.op_id.OpId.{OpId}
use Rattle.json_histories.specs.declared.read_error.ReadError.{ReadError}
use Rattle.json_histories.specs.declared.read_error.ReadError.TheVariants.{BadShape, BadOp, ReturnAfterUnknown, TooManySessions, TooManyOps, BadInitial}

-- the first refusal among those of the places 0 to n - 1
abbrev pub first_among : ℕ → (ℕ → Option ReadError) → Option ReadError
first_among zero refusal_at = None
first_among (suc n) refusal_at = option_or (first_among n refusal_at) (refusal_at n)

module _ {C R : Type 0} where
  -- an operation whose return isn't known
  abbrev pub is_unknown_return : Option (C × Option R) → Bool
  is_unknown_return None = false
  is_unknown_return (Some (c, None)) = true
  is_unknown_return (Some (c, Some r)) = false

  -- an operation that is no form, or has a known return after an unknown one in its session
  abbrev pub entry_refusal : Option (C × Option R) → Bool → OpId → Option ReadError
  entry_refusal None after_unknown op = Some (BadOp op)
  entry_refusal (Some (c, None)) after_unknown op = None
  entry_refusal (Some (c, Some r)) after_unknown op = if after_unknown then Some (ReturnAfterUnknown op) else None

module _ {C R : Type 0} (operation_at : Data → Option (C × Option R)) where
  abbrev pub operation_refusal : ℕ → List Data → ℕ → Option ReadError
  operation_refusal s ds i =
      entry_refusal (option_and_then operation_at (slice_get ds i)) (list_any (λ d. is_unknown_return (operation_at d)) (take i ds)) (record { session = s; index = i })

  abbrev pub operations_refusal : ℕ → Option (List Data) → Option ReadError
  operations_refusal s None = Some BadShape
  operations_refusal s (Some ds) = if nat_lt MAX_OPERATIONS (length ds) then Some TooManyOps else first_among (length ds) (operation_refusal s ds)

  abbrev pub session_refusal : List Data → ℕ → Option ReadError
  session_refusal sessions s = operations_refusal s (option_and_then elements (slice_get sessions s))

  abbrev pub sessions_refusal : List Data → Option ReadError
  sessions_refusal sessions =
      if nat_lt MAX_SESSIONS (length sessions) then Some TooManySessions else first_among (length sessions) (session_refusal sessions)

-- the name, the sessions, and what stands behind them: a list of a text, a list, and at most one more list
abbrev pub named_parts : Data → Data → List Data → Option (List ℕ × List Data × List Data)
named_parts n ss rest = option_and_then (λ (name : List ℕ). option_map (λ (sessions : List Data). (name, sessions, rest)) (elements ss)) (as_str n)

abbrev pub parts_among : List Data → Option (List ℕ × List Data × List Data)
parts_among [] = None
parts_among (n ∷ []) = None
parts_among (n ∷ ss ∷ []) = named_parts n ss []
parts_among (n ∷ ss ∷ t ∷ []) = if is_some (elements t) then named_parts n ss (t ∷ []) else None
parts_among (n ∷ ss ∷ t ∷ d ∷ ds) = None

abbrev pub parts_of : Data → Option (List ℕ × List Data × List Data)
parts_of d = option_and_then parts_among (elements d)

-- what stands behind the sessions is no start of the object
abbrev pub start_refusal : {S : Type 0} → Option S → Option ReadError
start_refusal None = Some BadInitial
start_refusal (Some s) = None

abbrev pub named_refusal : {S C R : Type 0} → (Data → Option (C × Option R)) → (List Data → Option S) → List Data → List Data → Option ReadError
named_refusal operation_at start_at sessions rest = option_or (sessions_refusal operation_at sessions) (start_refusal (start_at rest))
