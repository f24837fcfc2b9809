-- Runs of the sessions and sealers of a recorder: what happened, one event behind the other. (This project's profile.)
use Rattle.std.specs.Prelude.{◌≡◌, ℕ, ◌+◌, ◌<◌, ◌≤◌, ◌==◌, ◌↔◌, Bool, true, if◌then◌else◌, List, [], ◌∷◌, length, take, Option, Some, None, slice_get, slice_index, zero, suc}
use Rattle.std.specs.List.{filter_map}
use Rattle.model_history.specs.declared.op_id.OpId.{OpId}
use Rattle.model_history.specs.History.{HistoryValue}
use Rattle.live_cut_plan.specs.declared.cell.Cell.{Cell}
use Rattle.live_cut_plan.specs.declared.cell.Cell.TheVariants.{Return, Call}
use Rattle.live_cut_plan.specs.Plans.{Look, Plan, fresh_plan, after_looks, returns_found, calls_found, Follows, IsFinished}

-- an event: an operation began, with its call, or ended, with its return; or a sealer started, and was told of so many
-- operations of each session, or looked at a cell and was answered whether it is full
pub data Event (C R : Type 0) : Type 0 where
  Began : OpId → C → Event C R
  Ended : OpId → R → Event C R
  Started : ℕ → List ℕ → Event C R
  Looked : ℕ → Cell → Bool → Event C R

module _ {C R : Type 0} where
  abbrev pub call_of : ℕ → Event C R → Option C
  call_of s (Began o c) = if o.session == s then Some c else None
  call_of s _ = None

  abbrev pub return_of : ℕ → Event C R → Option R
  return_of s (Ended o r) = if o.session == s then Some r else None
  return_of s _ = None

  abbrev pub counts_of : Event C R → Option (List ℕ)
  counts_of (Started z told) = Some told
  counts_of _ = None

  abbrev pub look_of : ℕ → Event C R → Option Look
  look_of z (Looked y cell full) = if y == z then Some (cell, full) else None
  look_of z _ = None

  -- of these events, in order: the calls that a session began and the returns that ended them, what each sealer was told at
  -- its start, and the looks of a sealer
  abbrev pub begun : ℕ → List (Event C R) → List C
  begun s es = filter_map (call_of s) es

  abbrev pub ended : ℕ → List (Event C R) → List R
  ended s es = filter_map (return_of s) es

  abbrev pub sealers : List (Event C R) → List (List ℕ)
  sealers es = filter_map counts_of es

  abbrev pub looks : ℕ → List (Event C R) → List Look
  looks z es = filter_map (look_of z) es

  -- the i-th event is this one
  abbrev pub IsAt : List (Event C R) → ℕ → Event C R → Type 0
  IsAt es i e = slice_get es i ≡ Some e

  -- the operation began, or ended, in one of these events
  abbrev pub HasBegun : List (Event C R) → OpId → Type 0
  HasBegun es o = (i : ℕ) × (c : C) × IsAt es i (Began o c)

  abbrev pub HasEnded : List (Event C R) → OpId → Type 0
  HasEnded es o = (i : ℕ) × (r : R) × IsAt es i (Ended o r)

  -- behind these events the cell is full: that of a call where the operation has begun, that of a return where it has ended
  abbrev pub IsFull : List (Event C R) → Cell → Type 0
  IsFull es (Call o) = HasBegun es o
  IsFull es (Return o) = HasEnded es o

  -- what may come behind these events, in k sessions of at most so many operations: a session begins its next operation when
  -- all before it have ended, and ends the one that has not ended; the next sealer starts, and is told of no more operations
  -- than have ended; a sealer that has started looks, and the answer is true
  abbrev pub CanFollow : ℕ → ℕ → List (Event C R) → Event C R → Type 0
  CanFollow k cap es (Began o c) = (o.session < k) × (o.index < cap) × (length (begun o.session es) ≡ o.index) × (length (ended o.session es) ≡ o.index)
  CanFollow k cap es (Ended o r) = (length (begun o.session es) ≡ o.index + 1) × (length (ended o.session es) ≡ o.index)
  CanFollow k cap es (Started z told) = (length (sealers es) ≡ z) × (length told ≡ k) × ((s : ℕ) → slice_index told s ≤ length (ended s es))
  CanFollow k cap es (Looked z cell full) = (z < length (sealers es)) × ((full ≡ true) ↔ IsFull es cell)

  -- a run: each event may come behind those before it
  abbrev pub IsRun : ℕ → ℕ → List (Event C R) → Type 0
  IsRun k cap es = (i : ℕ) (e : Event C R) → IsAt es i e → CanFollow k cap (take i es) e

  -- sealer z has started, each of its looks was at the cell that was next in its plan, and this is its plan behind them, in
  -- which no cell is next
  pub record HasSealed (k cap : ℕ) (es : List (Event C R)) (z : ℕ) (plan : Plan) : Type 0 where
    pub start : ℕ
    pub told : List ℕ
    pub started : IsAt es start (Started z told)
    pub follows : Follows (fresh_plan k cap told) (looks z es)
    pub planned : plan ≡ after_looks (fresh_plan k cap told) (looks z es)
    pub finished : IsFinished plan

-- calls, each with its return where there is one
abbrev pub operations : {C R : Type 0} → List C → List R → List (C × Option R)
operations [] rs = []
operations (c ∷ cs) [] = (c, None) ∷ operations cs []
operations (c ∷ cs) (r ∷ rs) = (c, Some r) ∷ operations cs rs

module _ {C R : Type 0} (es : List (Event C R)) (plan : Plan) where
  -- what a plan found of a session: as many of its calls and of its returns
  abbrev pub sealed_session : ℕ → List (C × Option R)
  sealed_session s = operations (take (calls_found plan s) (begun s es)) (take (returns_found plan s) (ended s es))

  -- and of so many sessions from s on
  abbrev pub sealed_sessions : ℕ → ℕ → List (List (C × Option R))
  sealed_sessions s zero = []
  sealed_sessions s (suc n) = sealed_session s ∷ sealed_sessions (s + 1) n

-- the history that is sealed by what a plan found
abbrev pub sealed : {S C R : Type 0} → S → List (Event C R) → Plan → HistoryValue S C R
sealed start es plan = (start, sealed_sessions es plan 0 plan.lanes)
