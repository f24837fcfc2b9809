use Rattle.std.specs.Prelude.{◌==◌, filter}
use Rattle.log_events.specs.Events.{Call}
use Rattle.log_events.specs.Steps.Chains.{IsOnChain, left}
use Rattle.log_events.proofs.chains.Chains.collect.Given as goal

-- the chain of the client is followed so far
abbrev pub invariant-loop-link : goal.invariant-loop-link
invariant-loop-link l = IsOnChain l.calls l.self.next.items (filter (λ (a : Call). a.client == l.client) l.calls) l.found.items l.link

abbrev pub decreases-loop-link : goal.decreases-loop-link
decreases-loop-link l = left l.calls l.link
