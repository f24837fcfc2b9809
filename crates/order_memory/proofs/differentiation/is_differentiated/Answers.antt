use Rattle.std.proofs.Common.{rules}
use Rattle.std.proofs.lemmas.List.Sorted.{answers_always}
use Rattle.order_memory.proofs.Listed.{ListsWrites-permutation}
use Rattle.order_memory.proofs.differentiation.is_differentiated.Goals as goal

pub are_distinct-requires-clause-writes : goal.are_distinct-requires-clause-writes
are_distinct-requires-clause-writes c =
    ListsWrites-permutation c.args.h.now _ _ c.sort_unstable_by_key.ensures.permutation c.place_writes-count.ensures.writes

pub are_distinct-requires-clause-sorted : goal.are_distinct-requires-clause-sorted
are_distinct-requires-clause-sorted c =
    c.sort_unstable_by_key.ensures.sorted (λ w. (w.key, w.value)) (answers_always _ _ _ (λ f a r q k. search rules))
