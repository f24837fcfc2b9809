-- What decides which operations the calls of a log have by a choice.
use Rattle.std.specs.Prelude.{◌↔◌, ℕ, All, Contains, IsTrue, List, Option, Some, None, filter_map, map, option_map}
use Rattle.std.specs.List.{range_with_len}
use Rattle.std.specs.Option.{option_and_then}
use Rattle.std.specs.List.Sorted.{IsStrictlyIncreasing}
use Rattle.model_objects.specs.Table.{IsRising}
use Rattle.log_events.specs.declared.event.ClientCall.{ClientCall}
use Rattle.log_events.specs.declared.event.ClientCall.TheVariants.{WriteTo}
use Rattle.log_events.specs.declared.event.Ending.{Ending}
use Rattle.log_events.specs.declared.event.Ending.TheVariants.{Lost}
use Rattle.log_events.specs.declared.event.Event.{Event}
use Rattle.log_events.specs.Events.{Call, calls_of, run_calls}
use Rattle.log_events.specs.Histories.{Operation, clients, fork, is_deleted, is_returned}
use Rattle.log_events.specs.Kept.{IsSmallCall}
use Rattle.log_events.specs.Steps.CallKinds.{missed_key, missed_keys}
use Rattle.log_events.specs.Steps.Outcomes.{AreSorted}
use Rattle.log_choices.specs.declared.seen.Seen.{Seen}
use Rattle.log_choices.specs.Choices.{Choice}
use Rattle.log_choices.specs.ChosenHistories.{saw, is_seen}

-- the places of the table rise, and these are the keys that some delete names, among those of reads that got nothing
pub record AreNullReads (es : List Event) (entries : List (ℕ × Seen)) (keys : List ℕ) : Type 0 where
  pub entries_rise : IsRising entries
  pub keys_rise : IsStrictlyIncreasing keys
  pub keys_are : (x : ℕ) → Contains (missed_keys (run_calls es)) x → Contains keys x ↔ IsTrue (is_deleted es x)

-- the calls of each client
abbrev pub client_rows : List Event → List (List Call)
client_rows es = map (λ client. calls_of client es) (range_with_len 0 (clients es))

-- the place of a lost write whose value was returned
abbrev pub fork_place : List Event → Call → Option ℕ
fork_place es a = option_map (λ (l : List Operation). a.place) (fork es a.place a.call a.ending)

abbrev pub fork_places : List Event → List ℕ
fork_places es = filter_map (fork_place es) (run_calls es)

-- the call that began at a place is a lost write of v to x
abbrev pub IsLostWrite : List Event → ℕ → ℕ → ℕ → Type 0
IsLostWrite es p x v =
    (client : ℕ) × Contains (run_calls es) (record { client = client; place = p; call = WriteTo x v; ending = Some Lost })

-- of a read of x that saw a delete, the key and the place of the delete; of one that is left out, the key
abbrev pub with_key : ℕ → Option (Option ℕ) → Option (ℕ × ℕ)
with_key x None = None
with_key x (Some None) = None
with_key x (Some (Some p)) = Some (x, p)

abbrev pub unseen_key : ℕ → Option (Option ℕ) → Option ℕ
unseen_key x None = Some x
unseen_key x (Some c) = None

module _ (es : List Event) (f : Choice) where
  abbrev pub seen_pair : ℕ → ClientCall → Option Ending → Option (ℕ × ℕ)
  seen_pair place call ending = option_and_then (λ x. with_key x (saw es f place x)) (missed_key call ending)

  abbrev pub seen_pairs : List Call → List (ℕ × ℕ)
  seen_pairs calls = filter_map (λ (a : Call). seen_pair a.place a.call a.ending) calls

  abbrev pub left_out_key : ℕ → ClientCall → Option Ending → Option ℕ
  left_out_key place call ending = option_and_then (λ x. unseen_key x (saw es f place x)) (missed_key call ending)

  abbrev pub left_out_keys : List Call → List ℕ
  left_out_keys calls = filter_map (λ (a : Call). left_out_key a.place a.call a.ending) calls

  -- these are the places of lost writes whose value was returned, and the deletes that reads saw, with their keys
  pub record AreChosen (returned : List ℕ) (seen : List (ℕ × ℕ)) : Type 0 where
    pub returned_rise : IsStrictlyIncreasing returned
    pub returned_are : (p x v : ℕ) → IsLostWrite es p x v → Contains returned p ↔ IsTrue (is_returned es x v)
    pub seen_sorted : AreSorted seen
    pub seen_are : (x p : ℕ) → Contains seen (x, p) ↔ IsTrue (is_seen es f x p)
    pub small : All IsSmallCall (run_calls es)
