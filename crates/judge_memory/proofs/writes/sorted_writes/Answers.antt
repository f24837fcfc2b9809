use Rattle.std.proofs.Common.{arith, rules}
use Rattle.std.proofs.lemmas.List.Sorted.{answers_always}
use Rattle.order_memory.proofs.Listed.{ListsWrites-end, ListsWrites-permutation}
use Rattle.order_memory.proofs.Least.{sorted-from_keys, in_order-from_keys}
use Rattle.judge_memory.proofs.writes.sorted_writes.Goals as goal

pub returns : goal.returns
returns c =
    let by_write = c.sort_unstable_by_key.ensures.sorted (λ w. (w.key, w.value, w.op)) (answers_always _ _ _ (λ f a r q k. search rules)) in
    record {
      lists = ListsWrites-permutation _ _ _ c.sort_unstable_by_key.ensures.permutation
          (ListsWrites-end c.args.h.now c.loop-session.session c.loop-session.writes.items (omega arith) c.loop-session.invariant);
      sorted = sorted-from_keys _ by_write;
      in_order = in_order-from_keys _ by_write;
    }
