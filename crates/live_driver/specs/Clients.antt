-- What the clients of a drive do. (This project's profile.)
use Rattle.std.specs.Prelude.{◌≡◌, ℕ, ◌<◌, ◌≤◌, List, length, Option, Some, None, slice_get, Result, MatchResult}
use Rattle.model_history.specs.declared.op_id.OpId.{OpId}
use Rattle.model_history.specs.declared.advice.Advice.{Advice}
use Rattle.model_history.specs.History.{HistoryValue, entry, session}
use Rattle.live_recorder.specs.Lanes.{Cells, Returned}
use Rattle.live_recorder.specs.Sessions.{LanesState, ReceiptState, SessionState, after_finish, begun, fresh_session, receipt_of, session_operation}
use Rattle.live_replica.specs.Replicas.{ReplicaState}
use Rattle.live_seals.specs.Seals.{IsReceiptOf, IsSealOf, SealState}
use Rattle.live_driver.specs.Drives.{StaysOpen, calls_in}
use Rattle.live_driver.specs.declared.drive_error.DriveError.{DriveError}
use Rattle.live_driver.specs.declared.drive_error.DriveError.TheVariants.{Memory, ClockFull, CellGaveBack}

-- why a client gave up
abbrev pub IsGivenUp : DriveError → Type 0
IsGivenUp Memory = Unit {0}
IsGivenUp ClockFull = Unit {0}
IsGivenUp CellGaveBack = Unit {0}
IsGivenUp _ = ⊥

-- what a client leaves: its session, a receipt for its last call, and the seals that it took
pub record PlayedState (S C R : Type 0) : Type 0 where
  pub own : SessionState C R
  pub receipt : Option (ReceiptState C R)
  pub seals : List (SealState S C R)

-- what stands in a list stands at the same place in another
abbrev pub StandsIn : {A : Type 0} → List A → List A → Type 0
StandsIn {A} xs ys = (i : ℕ) (x : A) → slice_get xs i ≡ Some x → slice_get ys i ≡ Some x

module _ {C R : Type 0} where
  -- the session after this call returned
  abbrev pub HasReturned : SessionState C R → C → SessionState C R → Type 0
  HasReturned old call new = (r : R) × (a : Advice) × (new ≡ after_finish old call r a)

  -- the receipt of a session: for all that has returned, where anything has
  abbrev pub IsLastReceipt : SessionState C R → Option (ReceiptState C R) → Type 0
  IsLastReceipt own None = length own.done ≡ 0
  IsLastReceipt own (Some r) = r ≡ receipt_of own

  -- a receipt represents a call of a session
  pub record StandsFor (r : ReceiptState C R) (s i : ℕ) (c : C) : Type 0 where
    pub lane : r.lane ≡ s
    pub ret : R
    pub advice : Advice
    pub stands : slice_get r.operations i ≡ Some (c, ret, advice)

  -- the first calls of a session of the input have returned, in order
  abbrev pub HaveReturned : List (C × Option R) → ℕ → List (Returned C R) → Type 0
  HaveReturned calls n done = (i : ℕ) (c : C) (known : Option R) → i < n → slice_get calls i ≡ Some (c, known) → (r : R) × (a : Advice) × (slice_get done i ≡ Some (c, r, a))

module _ {S C R : Type 0} where
  -- seals of these lanes
  abbrev pub AreSealsOf : LanesState S → List (SealState S C R) → Type 0
  AreSealsOf lanes seals = (j : ℕ) (x : SealState S C R) → slice_get seals j ≡ Some x → IsSealOf lanes x

  -- a session of a recorder that may record its session of the input, and has recorded nothing yet
  pub record IsFresh (lanes : LanesState S) (input : HistoryValue S C R) (own : SessionState C R) : Type 0 where
    pub cells : Cells
    pub lane : slice_get lanes.cells own.lane ≡ Some cells
    pub fresh : own ≡ fresh_session own.lane cells
    pub places : length (session input own.lane) ≤ length cells.calls
    pub within : own.lane < length input.1

  -- a client after so many calls of its session: they have returned, none is pending, and its replica has answered as many
  pub record IsAt (lanes : LanesState S) (input : HistoryValue S C R) (s n : ℕ) (own : SessionState C R) (replica : ReplicaState S C) : Type 0 where
    pub lane : own.lane ≡ s
    pub cells : slice_get lanes.cells s ≡ Some own.cells
    pub idle : own.pending ≡ None
    pub called : HaveReturned (session input s) n own.done
    pub many : length own.done ≡ n
    pub answered : replica.operations ≡ n
    pub places : length (session input s) ≤ length own.cells.calls

  -- a session of the lanes that has begun the first calls of its session of the input, and no others
  pub record IsRecorded (lanes : LanesState S) (input : HistoryValue S C R) (own : SessionState C R) : Type 0 where
    pub cells : slice_get lanes.cells own.lane ≡ Some own.cells
    pub calls : StandsIn (begun own.done own.pending) (calls_in input own.lane)

  -- what the client of a session leaves: its receipt is of the lanes and represents each call but the open one, and its seals are of the lanes
  pub record IsPlayed (lanes : LanesState S) (stop : Option ℕ) (input : HistoryValue S C R) (s : ℕ) (p : PlayedState S C R) : Type 0 where
    pub lane : p.own.lane ≡ s
    pub recorded : IsRecorded lanes input p.own
    pub told : (r : ReceiptState C R) → p.receipt ≡ Some r → IsReceiptOf lanes r
    pub seals : AreSealsOf lanes p.seals
    pub calls : (i : ℕ) (c : C) (known : Option R) → entry input (session_operation s i) ≡ Some (c, known) → ¬ StaysOpen stop input (session_operation s i)
        → (r : ReceiptState C R) × (p.receipt ≡ Some r) × StandsFor r s i c

  -- each session that may be taken at a seat is fresh
  abbrev pub AreFreshWhere : LanesState S → HistoryValue S C R → (SessionState C R → Type 0) → Type 0
  AreFreshWhere lanes input ready = (own : SessionState C R) → ready own → IsFresh lanes input own

  -- what a client plays may be left at its seat, and so may why it gave up
  abbrev pub CanLeave : LanesState S → Option ℕ → HistoryValue S C R → (ℕ → Result (PlayedState S C R) DriveError → Type 0) → Type 0
  CanLeave lanes stop input left =
      (s : ℕ) (p : Result (PlayedState S C R) DriveError) → MatchResult p (IsPlayed lanes stop input s) IsGivenUp → left s p

  -- each session of a recorder is fresh, and they stand in order
  abbrev pub AreFresh : LanesState S → HistoryValue S C R → List (SessionState C R) → Type 0
  AreFresh lanes input owns = (s : ℕ) (own : SessionState C R) → slice_get owns s ≡ Some own → (own.lane ≡ s) × IsFresh lanes input own

  -- what the clients of all sessions left, in order, or why they gave up
  abbrev pub AreAllPlayed : LanesState S → Option ℕ → HistoryValue S C R → List (Result (PlayedState S C R) DriveError) → Type 0
  AreAllPlayed lanes stop input results = (s : ℕ) (p : Result (PlayedState S C R) DriveError) → slice_get results s ≡ Some p → MatchResult p (IsPlayed lanes stop input s) IsGivenUp

  -- receipts represent all calls of the input but the one that stays open
  abbrev pub StandForCalls : Option ℕ → HistoryValue S C R → List (ReceiptState C R) → Type 0
  StandForCalls stop input receipts = (o : OpId) (c : C) (known : Option R) → entry input o ≡ Some (c, known) → ¬ StaysOpen stop input o → (j : ℕ) × (r : ReceiptState C R) × (slice_get receipts j ≡ Some r) × StandsFor r o.session o.index c

  -- sessions that have so recorded
  abbrev pub AreRecorded : LanesState S → HistoryValue S C R → List (SessionState C R) → Type 0
  AreRecorded lanes input owns = (j : ℕ) (own : SessionState C R) → slice_get owns j ≡ Some own → IsRecorded lanes input own

  -- sessions of all lanes from this one on
  abbrev pub AreOfLanesFrom : ℕ → HistoryValue S C R → List (SessionState C R) → Type 0
  AreOfLanesFrom n input owns = (s : ℕ) → n ≤ s → s < length input.1 → (j : ℕ) × (own : SessionState C R) × (slice_get owns j ≡ Some own) × (own.lane ≡ s)

  -- a history has in this session the first calls of the input's, and no others
  abbrev pub HasFirstCalls : HistoryValue S C R → HistoryValue S C R → ℕ → Type 0
  HasFirstCalls input h s = StandsIn (calls_in h s) (calls_in input s)

  -- a history does in the lane of each of these sessions
  abbrev pub HasCallsOf : HistoryValue S C R → List (SessionState C R) → HistoryValue S C R → Type 0
  HasCallsOf input owns h = (j : ℕ) (own : SessionState C R) → slice_get owns j ≡ Some own → HasFirstCalls input h own.lane

  -- each of these seals does
  abbrev pub HaveCallsOf : HistoryValue S C R → List (SessionState C R) → List (SealState S C R) → Type 0
  HaveCallsOf input owns seals = (j : ℕ) (x : SealState S C R) → slice_get seals j ≡ Some x → HasCallsOf input owns x.history

  -- each of these seals does in every session
  abbrev pub HaveFirstCalls : HistoryValue S C R → List (SealState S C R) → Type 0
  HaveFirstCalls input seals = (j : ℕ) (x : SealState S C R) → slice_get seals j ≡ Some x → (s : ℕ) → s < length input.1 → HasFirstCalls input x.history s
