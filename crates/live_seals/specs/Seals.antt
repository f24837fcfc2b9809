-- Seals of what a recorder holds. (This project's profile.)
use Rattle.std.specs.Prelude.{◌≡◌, ℕ, ◌+◌, ◌<◌, ◌≤◌, List, [], length, Option, Some, None, slice_get, slice_index, slice_index_or, min, if◌then◌else◌, nat_lt}
use Rattle.std.specs.List.{filter_map}
use Rattle.model_history.specs.History.{HistoryValue, session, entry}
use Rattle.model_history.specs.declared.advice.Advice.{Advice}
use Rattle.model_history.specs.declared.op_id.OpId.{OpId}
use Rattle.live_recorder.specs.Lanes.{Cells}
use Rattle.live_recorder.specs.Sessions.{LanesState, ReceiptState, SessionState, begun, session_operation}
use Rattle.live_cut_plan.specs.Plans.{Look, Plan, after_looks, calls_found, fresh_plan, returns_found, Follows, IsFinished}

-- a seal: its history, for each session the cells whose returns it holds and those whose calls it holds behind them, and for
-- each operation of each session the store's advice, if it has a return
pub record SealState (S C R : Type 0) : Type 0 where
  pub history : HistoryValue S C R
  pub cells : List Cells
  pub advice : List (List (Option Advice))

-- a looker: the lanes that it looks at, the receipts that it was told, for each lane how many operations these represent, how
-- many places the lanes have at most, and its looks so far, oldest first
pub record LookerState (S C R : Type 0) : Type 0 where
  pub lanes : LanesState S
  pub receipts : List (ReceiptState C R)
  pub told : List ℕ
  pub cap : ℕ
  pub looks : List Look

-- these are the return cells of a lane from the first on, and its call cells behind them
pub record AreReadFrom (lane cells : Cells) : Type 0 where
  pub returns : (i x : ℕ) → slice_get cells.returns i ≡ Some x → slice_get lane.returns i ≡ Some x
  pub calls : (i x : ℕ) → slice_get cells.calls i ≡ Some x → slice_get lane.calls (length cells.returns + i) ≡ Some x

module _ {S C R : Type 0} where
  -- a receipt is of these lanes: its cells are the first return cells of its lane
  abbrev pub IsReceiptOf : LanesState S → ReceiptState C R → Type 0
  IsReceiptOf lanes r = (c : Cells) × (slice_get lanes.cells r.lane ≡ Some c) × ((i x : ℕ) → slice_get r.cells i ≡ Some x → slice_get c.returns i ≡ Some x)

  abbrev pub AreReceiptsOf : LanesState S → List (ReceiptState C R) → Type 0
  AreReceiptsOf lanes rs = (j : ℕ) (r : ReceiptState C R) → slice_get rs j ≡ Some r → IsReceiptOf lanes r

  -- for each lane the greatest number of operations that one of these receipts represents
  pub record AreToldBy (lanes : LanesState S) (rs : List (ReceiptState C R)) (told : List ℕ) : Type 0 where
    pub many : length told ≡ length lanes.cells
    pub most : (j : ℕ) (r : ReceiptState C R) → slice_get rs j ≡ Some r → length r.operations ≤ slice_index told r.lane
    pub reached : (s : ℕ) → 0 < slice_index told s → (j : ℕ) × (r : ReceiptState C R) × (slice_get rs j ≡ Some r) × (r.lane ≡ s) × (length r.operations ≡ slice_index told s)

  -- a history holds each operation that a receipt represents, with its call and return
  abbrev pub Holds : HistoryValue S C R → ReceiptState C R → Type 0
  Holds h r = (i : ℕ) (c : C) (x : R) (a : Advice) → slice_get r.operations i ≡ Some (c, x, a) → entry h (session_operation r.lane i) ≡ Some (c, Some x)

  abbrev pub HoldsAll : HistoryValue S C R → List (ReceiptState C R) → Type 0
  HoldsAll h rs = (j : ℕ) (r : ReceiptState C R) → slice_get rs j ≡ Some r → Holds h r

  -- the advice that a seal has of an operation
  abbrev pub advice_of : SealState S C R → OpId → Option (Option Advice)
  advice_of seal o = slice_get (slice_index_or seal.advice o.session []) o.index

  -- a seal has the advice of each operation that a receipt represents
  abbrev pub Advises : SealState S C R → ReceiptState C R → Type 0
  Advises seal r = (i : ℕ) (c : C) (x : R) (a : Advice) → slice_get r.operations i ≡ Some (c, x, a) → advice_of seal (session_operation r.lane i) ≡ Some (Some a)

  abbrev pub AdvisesAll : SealState S C R → List (ReceiptState C R) → Type 0
  AdvisesAll seal rs = (j : ℕ) (r : ReceiptState C R) → slice_get rs j ≡ Some r → Advises seal r

  -- a seal has one entry of advice for each operation of its history: advice where the return is known, and none where it is not
  pub record IsAdvised (seal : SealState S C R) : Type 0 where
    pub many : (s : ℕ) → length (slice_index_or seal.advice s []) ≡ length (session seal.history s)
    pub returned : (o : OpId) (c : C) (x : R) → entry seal.history o ≡ Some (c, Some x) → (a : Advice) × (advice_of seal o ≡ Some (Some a))
    pub called : (o : OpId) (c : C) → entry seal.history o ≡ Some (c, None) → advice_of seal o ≡ Some None

  -- a seal is one of these lanes: it has their start and a session for each of them, and was read from their cells
  pub record IsSealOf (lanes : LanesState S) (seal : SealState S C R) : Type 0 where
    pub start : seal.history.0 ≡ lanes.start
    pub many : length seal.history.1 ≡ length lanes.cells
    pub each : (s : ℕ) (lane : Cells) → slice_get lanes.cells s ≡ Some lane → (cells : Cells) × (slice_get seal.cells s ≡ Some cells) × AreReadFrom lane cells

  -- how many returns a history has of a session
  abbrev pub known_returns : HistoryValue S C R → ℕ → ℕ
  known_returns h s = length (filter_map (λ (e : C × Option R). e.1) (session h s))

  -- a seal and a session are of one recorder
  abbrev pub AreOfOne : SealState S C R → SessionState C R → Type 0
  AreOfOne seal session = (cells : Cells) × (slice_get seal.cells session.lane ≡ Some cells) × AreReadFrom session.cells cells

  -- how many calls a seal and a session both hold: the smaller of their numbers of calls, but the session's number of returns
  -- where the seal holds more returns
  abbrev pub met_calls : HistoryValue S C R → SessionState C R → ℕ
  met_calls h session' =
      if nat_lt (length session'.done) (known_returns h session'.lane) then length session'.done else min (length (session h session'.lane)) (length (begun session'.done session'.pending))

module _ {S C R : Type 0} where
  -- the plan of a looker before its looks, and after them
  abbrev pub plan_before : LookerState S C R → Plan
  plan_before l = fresh_plan (length l.lanes.cells) l.cap l.told

  abbrev pub plan_after : LookerState S C R → Plan
  plan_after l = after_looks (plan_before l) l.looks

  -- of each session a history holds as many returns and as many operations as were found
  pub record HoldsFound (p : Plan) (h : HistoryValue S C R) : Type 0 where
    pub returns : (s : ℕ) → s < p.lanes → known_returns h s ≡ returns_found p s
    pub operations : (s : ℕ) → s < p.lanes → length (session h s) ≡ calls_found p s

  -- a history holds what was found by a walk to the end: of the plan for these lanes and for what these receipts told
  pub record IsFoundByWalk (lanes : LanesState S) (rs : List (ReceiptState C R)) (h : HistoryValue S C R) : Type 0 where
    pub told : List ℕ
    pub cap : ℕ
    pub looks : List Look
    pub counts : AreToldBy lanes rs told
    pub places : (s : ℕ) (lane : Cells) → slice_get lanes.cells s ≡ Some lane → length lane.calls ≤ cap
    pub follows : Follows (fresh_plan (length lanes.cells) cap told) looks
    pub finished : IsFinished (after_looks (fresh_plan (length lanes.cells) cap told) looks)
    pub found : HoldsFound (after_looks (fresh_plan (length lanes.cells) cap told) looks) h
