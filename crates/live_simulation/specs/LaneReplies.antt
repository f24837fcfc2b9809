-- Which reply a step of a session or of a sealer has, read off what happened before.
use Rattle.std.specs.Prelude.{◌≡◌, ◌↔◌, ◌⊎◌, ℕ, ◌≤◌, Bool, true, if◌then◌else◌, List, length, Option, Some, None, option_map, slice_get, slice_index, nat_lt}
use Rattle.model_history.specs.declared.limits.TheConstants.{MAX_OPERATIONS}
use Rattle.model_history.specs.History.{HistoryValue}
use Rattle.order_causal.specs.Orders.{op}
use Rattle.live_cut_plan.specs.declared.cell.Cell.{Cell}
use Rattle.live_cut_plan.specs.Plans.{Plan, fresh_plan, after_looks, next_cell}
use Rattle.live_seals.specs.Runs.{Event, begun, ended, sealers, looks, sealed, IsFull}
use Rattle.live_simulation.specs.declared.step.StepOf.{StepOf}
use Rattle.live_simulation.specs.declared.step.StepOf.TheVariants.{Begin, End, Start, Look, Show}
use Rattle.live_simulation.specs.declared.reply.ReplyOf.{ReplyOf}
use Rattle.live_simulation.specs.declared.reply.ReplyOf.TheVariants.{Done, Sealer, Found, Sealed, Refused}
use Rattle.live_simulation.specs.declared.refusal.Refusal.{Refusal}
use Rattle.live_simulation.specs.declared.refusal.Refusal.TheVariants.{LaneFull, StillPending, NothingPending, WrongReturn, NoSuch}

-- the reply where nothing refuses the step
abbrev pub unless : {H : Type 0} → Option Refusal → ReplyOf H → ReplyOf H
unless None reply = reply
unless (Some refusal) reply = Refused refusal

-- why a session of n calls may not begin another, where this is the call that it has not ended
abbrev pub begin_within : {C : Type 0} → Option C → ℕ → Option Refusal
begin_within (Some c) n = Some StillPending
begin_within None n = if nat_lt n MAX_OPERATIONS then None else Some LaneFull

-- why a session may not end with a return, where this is the call that it has not ended
abbrev pub end_within : {C R : Type 0} → (C → R → Bool) → R → Option C → Option Refusal
end_within fits r None = Some NothingPending
end_within fits r (Some c) = if fits c r then None else Some WrongReturn

-- why one of k sessions, with these calls and returns, may not begin or end an operation
module _ {C R : Type 0} (k s : ℕ) (cs : List C) (rs : List R) where
  abbrev pub begin_refusal : Option Refusal
  begin_refusal = if nat_lt s k then begin_within (slice_get cs (length rs)) (length cs) else Some NoSuch

  abbrev pub end_refusal : (C → R → Bool) → R → Option Refusal
  end_refusal fits r = if nat_lt s k then end_within fits r (slice_get cs (length rs)) else Some NoSuch

module _ {C R : Type 0} (k : ℕ) (es : List (Event C R)) where
  -- one count for each session, and none is told of more operations than it ended
  abbrev pub IsTellable : List ℕ → Type 0
  IsTellable told = (length told ≡ k) × ((s : ℕ) → slice_index told s ≤ length (ended s es))

  -- the plan of a sealer that started, behind its looks: each session has 256 places
  abbrev pub plan : ℕ → Option Plan
  plan z = option_map (λ told. after_looks (fresh_plan k MAX_OPERATIONS told) (looks z es)) (slice_get (sealers es) z)

-- the cell that is next in a plan, where there is one
abbrev pub next_of : Option Plan → Option Cell
next_of None = None
next_of (Some p) = next_cell p

module _ {C R H : Type 0} (es : List (Event C R)) where
  -- a look tells whether the cell is full
  abbrev pub IsLookReply : Option Cell → ReplyOf H → Type 0
  IsLookReply None reply = reply ≡ Refused NoSuch
  IsLookReply (Some cell) reply = (full : Bool) × (reply ≡ Found cell full) × ((full ≡ true) ↔ IsFull es cell)

module _ {S C R : Type 0} (start : S) (es : List (Event C R)) where
  -- what is sealed by a plan, when no cell is next in it
  abbrev pub sealed_when : Plan → Option Cell → Option (HistoryValue S C R)
  sealed_when p (Some cell) = None
  sealed_when p None = Some (sealed start es p)

  abbrev pub sealed_by : Option Plan → Option (HistoryValue S C R)
  sealed_by None = None
  sealed_by (Some p) = sealed_when p (next_cell p)

-- the history of a sealer that has finished
abbrev pub seal : {S C R : Type 0} → S → ℕ → List (Event C R) → ℕ → Option (HistoryValue S C R)
seal start k es z = sealed_by start es (plan k es z)

abbrev pub show_reply : {H : Type 0} → Option H → ReplyOf H
show_reply None = Refused NoSuch
show_reply (Some h) = Sealed h

module _ {S C R : Type 0} (fits : C → R → Bool) (start : S) (k : ℕ) (es : List (Event C R)) where
  -- the reply of a step of a session or of a sealer, where these events happened before. Of other steps it says nothing
  abbrev pub IsLaneReply : StepOf C R → ReplyOf (HistoryValue S C R) → Type 0
  IsLaneReply (Begin s c) reply = reply ≡ unless (begin_refusal k s (begun s es) (ended s es)) (Done (op s (length (begun s es))))
  IsLaneReply (End s r) reply = reply ≡ unless (end_refusal k s (begun s es) (ended s es) fits r) (Done (op s (length (ended s es))))
  IsLaneReply (Start told) reply = ((reply ≡ Sealer (length (sealers es))) × IsTellable k es told) ⊎ ((reply ≡ Refused NoSuch) × ¬ IsTellable k es told)
  IsLaneReply (Look z) reply = IsLookReply es (next_of (plan k es z)) reply
  IsLaneReply (Show z) reply = reply ≡ show_reply (seal start k es z)
  IsLaneReply _ reply = Unit {0}
