-- Logs in the order of time.
use Rattle.std.specs.Prelude.{◌⊎◌, ℕ, ◌<◌, List}
use Rattle.log_events.specs.declared.event.ClientCall.TheVariants.{WriteTo, ReadOf}
use Rattle.log_events.specs.declared.event.Ending.TheVariants.{Got}
use Rattle.log_events.specs.declared.event.Event.{Event}
use Rattle.log_events.specs.declared.event.Event.TheVariants.{Starts}
use Rattle.log_events.specs.Events.{IsAt, IsEnded}
use Rattle.log_events.specs.Cuts.{IsBegunBefore}

-- each value that a read got is the start of its key, or its write was begun before the read ended
abbrev pub GotWhatWasBegun : List Event → Type 0
GotWhatWasBegun es =
    (client x v i j : ℕ) → IsEnded es client (ReadOf x) i j (Got v)
    → ((k : ℕ) × (k < j) × IsAt es k (Starts x v)) ⊎ IsBegunBefore es j (WriteTo x v)
