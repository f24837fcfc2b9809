use Rattle.order_causal.specs.Orders.{op}
use Rattle.order_memory.specs.Steps.SourceWaits.{IsSourceBefore}
use Rattle.order_causal.specs.Waits.{AreAlike, AreWaitsFor}
use Rattle.order_memory.proofs.source_waits.add_sources.Given as goal

-- the operations so far wait for their sources
abbrev pub invariant-loop-index : goal.invariant-loop-index
invariant-loop-index l = record {
  alike : AreAlike l.waits l.sources;
  so_far : AreWaitsFor (IsSourceBefore l.sources (op l.session l.index)) l.waits;
}
