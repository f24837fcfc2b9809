-- What decides which operations the calls of a log represent.
use Rattle.std.specs.Prelude.{◌↔◌, ℕ, All, Contains, IsTrue, List}
use Rattle.std.specs.Ordering.{nat_cmp, ordering_then}
use Rattle.std.specs.List.Sorted.{IsSorted, IsStrictlyIncreasing}
use Rattle.log_events.specs.declared.event.Event.{Event}
use Rattle.log_events.specs.Events.{run_calls}
use Rattle.log_events.specs.Histories.{is_deleted, is_returned}
use Rattle.log_events.specs.Kept.{IsSmallCall}
use Rattle.log_events.specs.Steps.CallKinds.{lost_pairs}

-- pairs in order, by the first and then by the second
abbrev pub AreSorted : List (ℕ × ℕ) → Type 0
AreSorted pairs = IsSorted (λ (a b : ℕ × ℕ). ordering_then (nat_cmp a.0 b.0) (nat_cmp a.1 b.1)) pairs

-- of the lost writes' keys with values these were returned, and some delete names these keys
pub record AreOutcomes (es : List Event) (returned : List (ℕ × ℕ)) (deleted : List ℕ) : Type 0 where
  pub sorted : AreSorted returned
  pub returned_are : (x v : ℕ) → Contains (lost_pairs (run_calls es)) (x, v) → Contains returned (x, v) ↔ IsTrue (is_returned es x v)
  pub rising : IsStrictlyIncreasing deleted
  pub deleted_are : (x : ℕ) → Contains deleted x ↔ IsTrue (is_deleted es x)
  pub small : All IsSmallCall (run_calls es)
