use Rattle.std.specs.Prelude.{ℕ, List, length, vec_len}
use Rattle.std.proofs.Common.{sym, ◌∙◌, subst}
use Rattle.judge_session_orders.specs.OnItsWay.{ListsSessions}
use Rattle.judge_session_orders.specs.OrderedSessions.{AreClaimed, AreOrderedSessions}
use Rattle.judge_session_orders.proofs.parts.order_sessions_in_threads.Goals as goal

pub order_left-requires-clause-found : goal.order_left-requires-clause-found
order_left-requires-clause-found g c =
    subst (λ (xs : List ℕ). AreOrderedSessions c.args.index.now.history xs c.in_ok-found.found) (c.deref.ensures.value ∙ sym c.deref-3.ensures.value)
    c.in_ok-found.ensures

pub order_left-requires-clause-sessions : goal.order_left-requires-clause-sessions
order_left-requires-clause-sessions g c =
    subst (λ (xs : List ℕ). ListsSessions c.args.index.now.history (length c.args.index.now.history.1) xs) (sym c.deref-3.ensures.value)
    c.in_ok-turns.ensures

pub order_claimed_in-requires-clause-sessions : goal.order_claimed_in-requires-clause-sessions
order_claimed_in-requires-clause-sessions g c = λ _ _.
    subst (λ (xs : List ℕ). ListsSessions c.args.index.now.history (length c.args.index.now.history.1) xs) (sym c.deref-2.ensures.value)
    c.in_ok-turns.ensures

pub join_claimed-requires : goal.join_claimed-requires
join_claimed-requires g c = record {
  each = subst
      (λ (xs : List ℕ). AreClaimed c.args.index.now.history xs (vec_len c.in_ok-order_claimed_in.field-0) c.in_ok-order_claimed_in.field-0.items)
      (c.deref-2.ensures.value ∙ sym c.deref.ensures.value) c.in_ok-order_claimed_in.ensures;
}

pub returns : goal.returns
returns g c = c.order_left.ensures
