use Rattle.std.proofs.Common.{rules}
use Rattle.std.proofs.lemmas.List.Sorted.{answers_always}
use Rattle.order_memory.proofs.last_writes.sort_by_variable.Goals as goal

pub returns-clause-sorted : goal.returns-clause-sorted
returns-clause-sorted c =
    c.sort_unstable_by_key.ensures.sorted (λ w. (w.key, w.op)) (answers_always _ _ _ (λ f a r q k. search rules))
