use Rattle.std.specs.Prelude.{◌<◌, ℕ, List, length}
use Rattle.std.proofs.Common.{inl, inr, subst, sym, ⊎_elim}
use Rattle.judge_workers.specs.Numbers.{HasNumber}
use Rattle.judge_session_orders.proofs.parts.order_left.Goals as goal

pub order_places-requires-clause-below : goal.order_places-requires-clause-below
order_places-requires-clause-below c = subst (λ (xs : List ℕ). (k : ℕ) → HasNumber xs k → k < length c.args.sessions.now)
    (sym c.deref-2.ensures.value) c.in_ok-rest.ensures.below

pub order_places-requires-clause-others : goal.order_places-requires-clause-others
order_places-requires-clause-others c k below =
    let h = c.args.index.now.history in
    let list : List ℕ = c.args.sessions.now in
    let rest : List ℕ = c.deref-2.result.now in
    ⊎_elim
    (λ (claimed : HasNumber c.deref.result.now k).
    inr (c.requires.found.each k (subst (λ (xs : List ℕ). HasNumber xs k) c.deref.ensures.value claimed)))
    (λ (left : HasNumber c.in_ok-rest.rest.items k). inl (subst (λ (xs : List ℕ). HasNumber xs k) (sym c.deref-2.ensures.value) left))
    (c.in_ok-rest.ensures.all k below)
