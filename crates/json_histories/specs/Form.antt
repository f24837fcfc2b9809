-- The JSON form of a history: `[name, sessions]`, or `[name, sessions, start]` where the start is not the plain one.
use Rattle.std.specs.Prelude.{◌≡◌, ℕ, List, [], ◌∷◌, map, Bool, true, false, Option, Some, IfSome, option_map, slice_get, slice_index_or}
use Rattle.serde_json.specs.Data.{Data, string}
use Rattle.serde_json.specs.View.{items_of}
use Rattle.serde_json.specs.Written.{items_have_float}
use Rattle.json_histories.specs.Json.{list, elements}
use Rattle.model_history.specs.History.{HistoryValue, IsSession}

-- no number of these is a float
abbrev pub HaveNoFloats : List Data → Type 0
HaveNoFloats ds = items_have_float (items_of ds) ≡ false

-- a return fits the call, where it is known
abbrev pub Fits : {C R : Type 0} → (C → R → Bool) → C → Option R → Type 0
Fits fits c r = IfSome r (λ v. fits c v ≡ true)

abbrev pub session_form : {C R : Type 0} → (C → Option R → Data) → List (C × Option R) → Data
session_form operation_form es = list (map (λ e. operation_form e.0 e.1) es)

abbrev pub history_form : {S C R : Type 0} → List ℕ → (C → Option R → Data) → (S → List Data) → HistoryValue S C R → Data
history_form name operation_form start_form h = list (string name ∷ list (map (session_form operation_form) h.1) ∷ start_form h.0)

-- every list is a session, and so is the empty one behind the last
abbrev pub AreSessions : {C R : Type 0} → (C → R → Bool) → List (List (C × Option R)) → Type 0
AreSessions fits ss = (s : ℕ) → IsSession fits (slice_index_or ss s [])

-- these forms read as these operations, which are a session
pub record IsReadFrom {C R : Type 0} (operation_at : Data → Option (C × Option R)) (fits : C → R → Bool) (ds : List Data) (es : List (C × Option R)) : Type 0 where
  pub read : map operation_at ds ≡ map (λ e. Some e) es
  pub is_session : IsSession fits es

-- what the elements of a list read as, each an operation or none
abbrev pub session_at : {C R : Type 0} → (Data → Option (C × Option R)) → Data → Option (List (Option (C × Option R)))
session_at operation_at d = option_map (map operation_at) (elements d)

-- these forms read as these sessions
abbrev pub ReadAs : {C R : Type 0} → (Data → Option (C × Option R)) → List Data → List (List (C × Option R)) → Type 0
ReadAs operation_at ds ss = map (session_at operation_at) ds ≡ map (λ es. Some (map (λ e. Some e) es)) ss

-- each call of a session is one of its type
abbrev pub AreCalls : {C R : Type 0} → (C → Type 0) → List (C × Option R) → Type 0
AreCalls {C} {R} is_call es = (i : ℕ) (c : C) (r : Option R) → slice_get es i ≡ Some (c, r) → is_call c

-- each call is one of its type
abbrev pub EachCall : {C R : Type 0} → (C → Type 0) → List (List (C × Option R)) → Type 0
EachCall is_call ss = (s : ℕ) → AreCalls is_call (slice_index_or ss s [])
