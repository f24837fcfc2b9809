use Rattle.std.specs.Prelude.{[], ℕ, List, slice_index_or}
use Rattle.std.proofs.Common.{arith, subst, ◌∙◌}
use Rattle.judge_memory.proofs.Orders.{order_by-straight}
use Rattle.judge_session_orders.specs.OrderedSessions.{IsOrderedAt}
use Rattle.judge_session_orders.specs.SessionOrders.{IsOutcome}
use Rattle.judge_session_orders.proofs.OrderedSessions.{ordered-more}
use Rattle.judge_session_orders.proofs.TurnLaws.{listed-exists}
use Rattle.judge_session_orders.proofs.ordering.order_each_claimed.Goals as goal

pub order_where_needed-requires-clause-known : goal.order_where_needed-requires-clause-known
order_where_needed-requires-clause-known c =
    let h = c.args.index.now.history in
    let list : List ℕ = c.args.sessions.now in
    let listed = listed-exists h list c.requires.sessions c.in-Some.place c.in-Some.ensures in
    let some = listed.1 in
    record {
      straight = order_by-straight h [] c.args.order.now c.requires.order;
      distinct = c.value_is_indexed.ensures.distinct;
      variables = c.value_is_indexed.ensures.variables;
      few = c.loop-claim.invariant.clear.few;
      exists = listed.0;
      operation = omega arith;
    }

pub loop-claim-preserved : goal.loop-claim-preserved
loop-claim-preserved c =
    let h = c.args.index.now.history in
    let list : List ℕ = c.args.sessions.now in
    let place : ℕ = c.in-Some.place in
    let was = c.loop-claim.invariant in
    let here : IsOrderedAt h list place =
    subst (IsOutcome h (slice_index_or list place 0)) c.in-Explained.is c.in_ok-shown.ensures.outcome in
    record {
      beginning = c.in_ok-shown.ensures.beginning;
      clear = c.in_ok-shown.ensures.clear c.in-Explained.is;
      sessions = c.in_ok-shown.ensures.sessions ∙ was.sessions;
      ordered = record {
        each = ordered-more h list c.loop-claim.found.places.items c.push.new.self.items place c.in_ok-push-in-Explained.ensures.items
            was.ordered.each here;
        unexplained = was.ordered.unexplained;
      };
    }
