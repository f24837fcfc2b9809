-- When the values that a log writes are distinct.
use Rattle.std.specs.Prelude.{◌≡◌, ℕ, IsTrue, List}
use Rattle.log_events.specs.declared.event.ClientCall.TheVariants.{WriteTo}
use Rattle.log_events.specs.declared.event.Ending.TheVariants.{Failed, Lost}
use Rattle.log_events.specs.declared.event.Event.{Event}
use Rattle.log_events.specs.declared.event.Event.TheVariants.{Starts, Begins}
use Rattle.log_events.specs.Events.{IsAt, IsEnded}
use Rattle.log_events.specs.Histories.{is_returned}

-- the client began at the place i a write of v to x that is in the history: it does not fail, and if it was lost, some read got its
-- value
pub record BeginsKeptWrite (es : List Event) (client i x v : ℕ) : Type 0 where
  pub begun : IsAt es i (Begins client (WriteTo x v))
  pub not_failed : (j : ℕ) → ¬ IsEnded es client (WriteTo x v) i j Failed
  pub returned : (j : ℕ) → IsEnded es client (WriteTo x v) i j Lost → IsTrue (is_returned es x v)

-- no key is written twice with one value, and no write writes what its key starts with
pub record HasDistinctValues (es : List Event) : Type 0 where
  pub once : (client other i j x v : ℕ) → BeginsKeptWrite es client i x v → BeginsKeptWrite es other j x v → i ≡ j
  pub not_started : (client i x v k : ℕ) → BeginsKeptWrite es client i x v → ¬ IsAt es k (Starts x v)
