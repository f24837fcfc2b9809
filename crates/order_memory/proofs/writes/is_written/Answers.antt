use Rattle.std.proofs.Common.{rules}
use Rattle.std.proofs.lemmas.List.Sorted.{answers_always}
use Rattle.order_memory.proofs.Sorted.{is_written-search}
use Rattle.order_memory.proofs.writes.is_written.Goals as goal

pub returns : goal.returns
returns c = is_written-search c.args.writes.now c.args.key c.args.value c.binary_search_by_key.result c.is_ok.result c.requires
    c.binary_search_by_key.ensures.bound
    (c.binary_search_by_key.ensures.position (λ w. (w.key, w.value)) (answers_always _ _ _ (λ f a r q k. search rules)))
    c.is_ok.ensures.value
