use Rattle.std.proofs.Common.{take}
use Rattle.log_events.specs.Steps.Tallies.{AreCounted}
use Rattle.log_events.proofs.tallies.counts_of.Given as goal

-- those so far are counted
abbrev pub invariant-loop-key : goal.invariant-loop-key
invariant-loop-key l = AreCounted (take l.key-index l.listed) l.keys l.counts.items
