-- What may come next at the end of a log, and the pending call of a client there.
use Rattle.std.specs.Prelude.{ℕ, List, [], ◌∷◌, ◌++◌, length}
use Rattle.log_events.specs.declared.event.ClientCall.{ClientCall}
use Rattle.log_events.specs.declared.event.Event.{Event}
use Rattle.log_events.specs.Events.{IsOpen, MayStand}

-- the event may come next
abbrev pub MayFollow : List Event → Event → Type 0
MayFollow es e = MayStand (es ++ e ∷ []) (length es) e

-- the client began the call, and it has not ended
abbrev pub IsPending : List Event → ℕ → ClientCall → Type 0
IsPending es client call = (i : ℕ) × IsOpen es client call i (length es)
