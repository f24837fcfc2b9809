use Rattle.log_events.specs.Steps.Chains.{AreChainsFrom}
use Rattle.log_events.proofs.chains.chains_of.Given as goal

-- the calls from here on are linked
abbrev pub invariant-loop-number : goal.invariant-loop-number
invariant-loop-number l = AreChainsFrom l.calls l.clients l.first.items l.next.items l.number
