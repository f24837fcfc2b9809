use Rattle.live_seals.specs.Steps.Tables.{IsLongest}
use Rattle.live_seals.proofs.longest.longest.Given as goal

abbrev pub invariant-loop-j : goal.invariant-loop-j
invariant-loop-j g l = IsLongest l.receipts l.lane l.j l.best
