-- What a session recorded, and what a receipt represents. (This project's profile.)
use Rattle.std.specs.Prelude.{◌≡◌, ℕ, ◌+◌, ◌-◌, ◌<◌, ◌≤◌, Bool, true, List, [], ◌∷◌, ◌++◌, length, take, map, Option, Some, None, option_map, slice_get}
use Rattle.model_history.specs.declared.op_id.OpId.{OpId}
use Rattle.model_history.specs.declared.advice.Advice.{Advice}
use Rattle.live_recorder.specs.Lanes.{Cells, Entry, Notes, Returned, Tells, IsLane, known, operation, operations}

-- a session: its lane and the lane's cells, its operations that have returned, and the call that is pending
pub record SessionState (C R : Type 0) : Type 0 where
  pub lane : ℕ
  pub cells : Cells
  pub done : List (Returned C R)
  pub pending : Option C

-- a receipt: its session's lane, and the operations of that session up to its own, with their return cells
pub record ReceiptState (C R : Type 0) : Type 0 where
  pub lane : ℕ
  pub cells : List ℕ
  pub operations : List (Returned C R)

-- a recorder's lanes: the start of its object, and the cells of each lane
pub record LanesState (S : Type 0) : Type 0 where
  pub start : S
  pub cells : List Cells

-- the operation with this index of this session
abbrev pub session_operation : ℕ → ℕ → OpId
session_operation s i = record { session = s; index = i }

module _ {C R : Type 0} where
  -- the calls that a session began
  abbrev pub begun : List (Returned C R) → Option C → List C
  begun done None = map (λ (o : Returned C R). o.0) done
  begun done (Some c) = map (λ (o : Returned C R). o.0) done ++ c ∷ []

  -- a session that has recorded nothing yet
  abbrev pub fresh_session : ℕ → Cells → SessionState C R
  fresh_session s cells = record { lane = s; cells = cells; done = []; pending = None }

  -- the session after it began this call
  abbrev pub after_begin : SessionState C R → C → SessionState C R
  after_begin s c = record { lane = s.lane; cells = s.cells; done = s.done; pending = Some c }

  -- the session after its pending call, which is this one, returned with this advice
  abbrev pub after_finish : SessionState C R → C → R → Advice → SessionState C R
  after_finish s c r a = record { lane = s.lane; cells = s.cells; done = s.done ++ (c, r, a) ∷ []; pending = None }

  -- the receipt for all that a session has done
  abbrev pub receipt_of : SessionState C R → ReceiptState C R
  receipt_of s = record { lane = s.lane; cells = take (length s.done) s.cells.returns; operations = s.done }

  -- the operation that a receipt was given for
  abbrev pub last_of : ReceiptState C R → Option (Returned C R)
  last_of r = slice_get r.operations (length r.operations - 1)

  -- a call is pending that this return fits
  abbrev pub CanReturn : (C → R → Bool) → SessionState C R → R → Type 0
  CanReturn fits s r = (c : C) × (s.pending ≡ Some c) × (fits c r ≡ true)

  -- the pending call returned this, with this advice
  abbrev pub HasFinished : (C → R → Bool) → SessionState C R → R → Advice → SessionState C R → Type 0
  HasFinished fits old r a new = (c : C) × (old.pending ≡ Some c) × (fits c r ≡ true) × (new ≡ after_finish old c r a)

-- a call that is pending: what is ready for its return is a receipt's notes of the operations before it
pub record Begun (C R : Type 0) : Type 0 where
  pub call : C
  pub notes : List (ℕ × Option (Entry C R))

-- the session that these notes of returns, and the call that is pending, tell of
abbrev pub session_state : {C R : Type 0} → ℕ → Cells → Notes (Entry C R) → Option (Begun C R) → SessionState C R
session_state lane cells returns pending = record {
  lane = lane;
  cells = cells;
  done = operations returns.list;
  pending = option_map (λ b. b.call) pending;
}

-- the receipt for a pending call of a lane that returned this, with this advice
abbrev pub next_receipt : {C R : Type 0} → ℕ → Cells → Begun C R → R → Advice → ReceiptState C R
next_receipt lane cells b r a = record {
  lane = lane;
  cells = take (length b.notes + 1) cells.returns;
  operations = operations b.notes ++ (b.call, r, a) ∷ [];
}

-- what a session keeps: its notes tell of its calls and returns, and there is room for the pending call's return
pub record IsSession {C R : Type 0} (cells : Cells) (calls : Notes C) (returns : Notes (Entry C R)) (pending : Option (Begun C R)) : Type 0 where
  pub lane : IsLane cells
  pub within : length calls.list ≤ length cells.calls
  pub called : Tells known cells.calls calls.list (begun (operations returns.list) (option_map (λ (b : Begun C R). b.call) pending))
  pub returned : Tells operation cells.returns returns.list (operations returns.list)
  pub ready : (b : Begun C R) → pending ≡ Some b → (b.notes ≡ returns.list) × (0 < returns.room)

-- what a receipt keeps: each of its notes shows an operation, and the last one its own
pub record IsReceipt {C R : Type 0} (notes : List (ℕ × Option (Entry C R))) (call : C) (ret : R) : Type 0 where
  pub shows : map operation notes ≡ map Some (operations notes)
  pub last : (a : Advice) × (slice_get (operations notes) (length notes - 1) ≡ Some (call, ret, a))
