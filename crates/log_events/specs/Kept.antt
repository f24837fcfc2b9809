-- What a log keeps of its events.
use Rattle.std.specs.Prelude.{◌≡◌, ℕ, zero, suc, ◌+◌, ◌^◌, ◌<◌, ◌≤◌, All, List, filter_map, length, slice_get, slice_index, Some, None}
use Rattle.model_objects.specs.Table.{IsRising}
use Rattle.log_events.specs.declared.event.Ending.{Ending}
use Rattle.log_events.specs.declared.event.Event.{Event}
use Rattle.log_events.specs.Events.{Call, IsAllowed, IsEnded, run_calls}
use Rattle.log_events.specs.Histories.{clients, key, start_entry}
use Rattle.log_events.specs.Shapes.{called_key}
use Rattle.log_events.specs.declared.limits.TheConstants.{MAX_EVENTS, MAX_NAME}

-- a call is within the limits
pub record IsSmallCall (a : Call) : Type 0 where
  pub client : a.client ≤ MAX_NAME
  pub key : called_key a.call ≤ MAX_NAME
  pub place : a.place < MAX_EVENTS

-- the key is above those of some starts
abbrev pub IsAbove : List (ℕ × ℕ) → ℕ → Type 0
IsAbove starts x = All (λ entry. entry.0 < key x) starts

-- for each client one more than the number of its call that has not ended, or 0
pub record ArePending (calls : List Call) (pending : List ℕ) : Type 0 where
  pub listed : (k : ℕ) (a : Call) → slice_get calls k ≡ Some a → a.ending ≡ None → slice_index pending a.client ≡ k + 1
  pub open_still : (client k : ℕ) → slice_index pending client ≡ k + 1
      → (a : Call) × (slice_get calls k ≡ Some a) × (a.client ≡ client) × (a.ending ≡ None)

-- one more than the place of the end of a call, or 0 where it is pending
abbrev pub IsEndLink : List Event → Call → ℕ → Type 0
IsEndLink es a zero = a.ending ≡ None
IsEndLink es a (suc j) = (ending : Ending) × IsEnded es a.client a.call a.place j ending

-- that for each call of the run, and 0 past them
pub record AreEnds (es : List Event) (ends : List ℕ) : Type 0 where
  pub each : (k : ℕ) (a : Call) → slice_get (run_calls es) k ≡ Some a → IsEndLink es a (slice_index ends k)
  pub past : (k : ℕ) → length (run_calls es) ≤ k → slice_index ends k ≡ 0
  pub room : length (run_calls es) ≤ length ends

-- the events are a log, and these are its starts, its calls, the pending calls, how many clients it has, and how many events
pub record IsKept (es : List Event) (starts : List (ℕ × ℕ)) (calls : List Call) (pending : List ℕ) (sessions events : ℕ) : Type 0 where
  pub allowed : IsAllowed es
  pub rising : IsRising starts
  pub starts_are : starts ≡ filter_map start_entry es
  pub calls_are : calls ≡ run_calls es
  pub are_pending : ArePending calls pending
  pub sessions_are : sessions ≡ clients es
  pub count : events ≡ length es
  pub few : length es ≤ MAX_EVENTS
  pub small_starts : All (λ entry. entry.0 < 2 ^ 32) starts
  pub small_calls : All IsSmallCall calls
