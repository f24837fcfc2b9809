use Rattle.order_causal.specs.Orders.{op}
use Rattle.order_memory.specs.Steps.SourceWaits.{IsSourceBefore}
use Rattle.order_causal.specs.Waits.{AreAlike, AreWaitsFor}
use Rattle.order_memory.proofs.source_waits.waits_for_sources.Given as goal

-- the operations of the sessions so far wait for their sources
abbrev pub invariant-loop-session : goal.invariant-loop-session
invariant-loop-session g l = record {
  alike : AreAlike l.waits l.sources;
  so_far : AreWaitsFor (IsSourceBefore l.sources (op l.session 0)) l.waits;
}
