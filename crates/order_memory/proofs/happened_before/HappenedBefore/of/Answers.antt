use Rattle.std.specs.Prelude.{List, Option, length}
use Rattle.std.proofs.Common.{arith, refl, subst, subst₂, sym, ◌∙◌}
use Rattle.model_history.specs.declared.op_id.OpId.{OpId}
use Rattle.model_history.specs.History.{session}
use Rattle.order_memory.specs.declared.writes.Write.{Write}
use Rattle.order_memory.specs.Memory.{MemoryHistory}
use Rattle.order_memory.specs.SourceOrder.{ListsSourcesBelow}
use Rattle.order_memory.specs.Steps.GrowingOrders.{AreHeldVectors}
use Rattle.order_memory.specs.Steps.GrowthSteps.{IsGrowing}
use Rattle.order_memory.specs.Steps.HappenedBefores.{AreStrictOf}
use Rattle.order_memory.specs.Steps.Indexed.{ListsSourcesIfAny}
use Rattle.order_memory.specs.Steps.Written.{AreByVariable, ListsWrites}
use Rattle.order_memory.proofs.GrowingOrdersLaws.{held-by_sources}
use Rattle.order_memory.proofs.IndexedLaws.{below-sourced}
use Rattle.order_memory.proofs.Saturating.{made-first}
use Rattle.order_memory.proofs.happened_before.HappenedBefore.of.Goals as goal

pub get-requires : goal.get-requires
get-requires c =
    let lists = subst (λ (h : MemoryHistory). ListsSourcesIfAny h c.sources.result.now) c.memory-memory.ensures c.sources.ensures in
    let sessions = lists.sessions in
    let exists = c.requires.exists in
    omega arith

pub of-requires : goal.of-requires
of-requires c =
    subst (λ (h : MemoryHistory). AreHeldVectors h c.vectors.result.now) (sym c.history.ensures) (held-by_sources c.args.order.now c.vectors.result.now c.vectors.ensures)

pub returns-clause-made : goal.returns-clause-made
returns-clause-made c =
    let h = c.args.order.now in
    let s = c.args.session in
    let writes = sym c.in_ok-writes.ensures.items in
    let lists = subst (λ (g : MemoryHistory). ListsSourcesIfAny g c.sources.result.now) c.memory-memory.ensures c.sources.ensures in
    let sourced = below-sourced h c.vectors.ensures.sources s (length (session h s)) _ (lists.each s c.requires.exists) in
    made-first h c.vectors.result.now c.vectors.ensures _
    (record {
      order = subst (λ (g : MemoryHistory). IsGrowing g c.in_ok-order.order) c.history.ensures c.in_ok-order.ensures.growing;
      exists = c.requires.exists;
      taken = omega arith;
      writes = subst₂ (λ (g : MemoryHistory) (ws : List Write). ListsWrites g ws) c.memory-memory.ensures writes c.writes_by_variable.ensures.writes;
      by_variable = subst (λ (ws : List Write). AreByVariable ws) writes c.writes_by_variable.ensures.sorted;
      sources = subst (λ (es : List (Option OpId)). ListsSourcesBelow h s (length (session h s)) es) (sym (c.in_ok-sources.ensures.items ∙ c.get.ensures)) sourced;
    })
    (subst (λ (g : MemoryHistory). AreStrictOf g c.vectors.result.now c.in_ok-order.order.counts) c.history.ensures c.in_ok-order.ensures.strict)
    c.in_ok-order.ensures.begun refl

pub returns-clause-strict : goal.returns-clause-strict
returns-clause-strict c = (
  c.vectors.result.now,
  c.vectors.ensures,
  subst (λ (g : MemoryHistory). AreStrictOf g c.vectors.result.now c.in_ok-order.order.counts) c.history.ensures c.in_ok-order.ensures.strict,
)
