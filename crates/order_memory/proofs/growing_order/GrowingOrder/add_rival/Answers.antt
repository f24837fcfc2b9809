use Rattle.order_memory.proofs.growing_order.GrowingOrder.add_rival.Goals as goal

pub returns-clause-within : goal.returns-clause-within
returns-clause-within c =
    let within = rw c.session_place-session.ensures at (rw c.place-index.ensures at
    (rw c.session_place-other.ensures at (rw c.number-count.ensures at c.raise_from.ensures.within))) in
    λ reads ruled. within reads (λ _. ruled)
