use Rattle.std.proofs.Common.{◌≡◌, drop, take}
use Rattle.std.specs.Prelude.{filter_map}
use Rattle.log_events.specs.Histories.{clients}
use Rattle.log_events.specs.Origins.{origins_of}
use Rattle.log_choices.proofs.ForkPlaces.{row_place}
use Rattle.log_choices.proofs.lost_calls.returned_writes.Given as goal

-- the places of the calls of the forks so far
abbrev pub invariant-loop-fork : goal.invariant-loop-fork
invariant-loop-fork l = l.places.items ≡ filter_map row_place (drop (clients l.log) (take l.fork (origins_of l.log)))
