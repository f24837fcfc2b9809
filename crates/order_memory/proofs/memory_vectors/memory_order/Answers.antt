use Rattle.std.proofs.Common.{subst, refl, inl, inr, ⊎_elim}
use Rattle.std.specs.Prelude.{◌⊎◌, ◌↔◌, Option, Some, None, IfNone, IfSome, IsNone, MatchOption}
use Rattle.model_history.specs.declared.op_id.OpId.{OpId}
use Rattle.order_causal.specs.Vectors.{Counts}
use Rattle.order_memory.specs.Memory.{MemoryHistory, IsDifferentiated}
use Rattle.order_memory.specs.SourceOrder.{CountsCO, CountsSourceOrder, IsCyclic, LacksSource, SourceOrder}
use Rattle.order_memory.specs.Steps.Indexed.{IsUnordered}
use Rattle.order_memory.proofs.FirstWrites.{counts-past, CO-from_sources, CO-by_sources}
use Rattle.order_memory.proofs.memory_vectors.memory_order.Goals as goal

module _ (h : MemoryHistory) where
  -- vectors of the order of program order and sources, or why there are none
  abbrev Outcome : Option Counts → Type 0
  Outcome order = MatchOption order (IsUnordered h) (CountsSourceOrder h)

  outcome-none : (order : Option Counts) → Outcome order → IfNone order (IsUnordered h)
  outcome-none None unordered = unordered
  outcome-none (Some v) counts = tt

  outcome-causal : (order : Option Counts) → Outcome order → IsDifferentiated h → IfSome order (CountsCO h)
  outcome-causal None unordered distinct = tt
  outcome-causal (Some v) counts distinct = counts-past h distinct v counts

  outcome-exact : (order : Option Counts) → Outcome order → IsDifferentiated h → IsNone order ↔ (IsCyclic h ⊎ LacksSource h)
  outcome-exact None unordered distinct = (
    (λ _. ⊎_elim
        (λ (cycle : (a : OpId) × SourceOrder h a a). inl (cycle.0, CO-from_sources h cycle.0 cycle.0 cycle.1))
        (λ (lacks : LacksSource h). inr lacks)
        unordered),
    λ _. refl,
  )
  outcome-exact (Some v) counts distinct = (
    (λ none. absurd cc),
    λ bad. ⊎_elim
        (λ (cyclic : IsCyclic h). absurd (counts.acyclic cyclic.0 (CO-by_sources h distinct cyclic.0 cyclic.0 cyclic.1)))
        (λ (lacks : LacksSource h). absurd (counts.sources lacks))
        bad,
  )

pub returns-clause-none : goal.returns-clause-none
returns-clause-none c =
    outcome-none c.args.h.now c.into_order.result (subst (λ (m : MemoryHistory). Outcome m c.into_order.result) c.in_ok-memory.ensures c.into_order.ensures)

pub returns-clause-causal : goal.returns-clause-causal
returns-clause-causal c =
    outcome-causal c.args.h.now c.into_order.result (subst (λ (m : MemoryHistory). Outcome m c.into_order.result) c.in_ok-memory.ensures c.into_order.ensures)

pub returns-clause-exact : goal.returns-clause-exact
returns-clause-exact c =
    outcome-exact c.args.h.now c.into_order.result (subst (λ (m : MemoryHistory). Outcome m c.into_order.result) c.in_ok-memory.ensures c.into_order.ensures)
