use Rattle.std.proofs.Common.{arith, rules}
use Rattle.std.proofs.lemmas.List.Sorted.{answers_always}
use Rattle.order_memory.proofs.Listed.{ListsWrites-end, ListsWrites-permutation}
use Rattle.order_memory.proofs.Least.{sorted-from_keys, in_order-from_keys}
use Rattle.order_memory.proofs.writes.sorted_writes.Goals as goal

pub returns-clause-writes : goal.returns-clause-writes
returns-clause-writes c = ListsWrites-permutation _ _ _ c.sort_unstable_by_key.ensures.permutation
    (ListsWrites-end c.args.h.now c.loop-session.session c.loop-session.writes.items (omega arith) c.loop-session.invariant)

pub returns-clause-sorted : goal.returns-clause-sorted
returns-clause-sorted c =
    sorted-from_keys _ (c.sort_unstable_by_key.ensures.sorted (λ w. (w.key, w.value, w.op)) (answers_always _ _ _ (λ f a r q k. search rules)))

pub returns-clause-in_order : goal.returns-clause-in_order
returns-clause-in_order c =
    in_order-from_keys _ (c.sort_unstable_by_key.ensures.sorted (λ w. (w.key, w.value, w.op)) (answers_always _ _ _ (λ f a r q k. search rules)))
