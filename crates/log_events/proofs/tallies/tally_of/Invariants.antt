use Rattle.std.proofs.Common.{take}
use Rattle.log_events.specs.Steps.Tallies.{IsTally}
use Rattle.log_events.proofs.tallies.tally_of.Given as goal

-- the keys so far are listed
abbrev pub invariant-loop-place : goal.invariant-loop-place
invariant-loop-place l = IsTally l.listed (take l.place l.keys) l.found.items
