use Rattle.std.specs.Prelude.{◌≡◌, List}
use Rattle.std.proofs.Common.{subst, sym, ◌∙◌}
use Rattle.order_memory.specs.declared.writes.Write.{Write}
use Rattle.order_memory.specs.Steps.Written.{ListsWrites}
use Rattle.order_memory.proofs.Listed.{ListsWrites-permutation}
use Rattle.order_memory.proofs.indexed.IndexedMemory.of.Goals as goal

pub invariant_of-result : goal.invariant_of-result
invariant_of-result c =
    let copied : c.in_ok-by_variable.by_variable.items ≡ c.in_ok-writes.writes.items = c.in_ok-by_variable.ensures.items ∙ c.deref.ensures.value in
    let before = subst (λ (ws : List Write). ListsWrites c.args.h.now ws) (sym copied) c.in_ok-writes.ensures.writes in
    record {
      writes = c.in_ok-writes.ensures.writes;
      sorted = c.in_ok-writes.ensures.sorted;
      in_order = c.in_ok-writes.ensures.in_order;
      by_variable = ListsWrites-permutation c.args.h.now _ _ c.sort_by_variable.ensures.same before;
      sorted_by_variable = c.sort_by_variable.ensures.sorted;
      sources = c.in_ok-sources.ensures;
      reads = c.in_ok-reads.ensures;
      distinct = c.are_distinct-is_differentiated.ensures;
      ordered = c.in_ok-order.ensures;
    }
