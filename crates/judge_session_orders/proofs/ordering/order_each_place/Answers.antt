use Rattle.std.specs.Prelude.{◌<◌, ◌≤◌, [], ℕ, List, length, slice_index_or}
use Rattle.std.proofs.Common.{arith, rules, subst, ◌∙◌}
use Rattle.std.proofs.lemmas.Option.{slice_get-get_or, slice_get_within}
use Rattle.judge_memory.proofs.Orders.{order_by-straight}
use Rattle.judge_session_orders.specs.OrderedSessions.{IsOrderedAt}
use Rattle.judge_session_orders.specs.SessionOrders.{IsOutcome}
use Rattle.judge_session_orders.proofs.OrderedSessions.{left-ordered, ordered-all, places-more}
use Rattle.judge_session_orders.proofs.TurnLaws.{listed-exists}
use Rattle.judge_session_orders.proofs.ordering.order_each_place.Goals as goal

pub offset_bounds-sessions-places : goal.offset_bounds-sessions-places
offset_bounds-sessions-places c =
    let places : List ℕ = c.args.places.now in
    let i : ℕ = c.loop-i.i in
    let inside : i < length places = grind arith in
    let below = c.requires.below (slice_index_or places i 0) (i, slice_get-get_or places i 0 inside) in
    search rules

pub bounds-sessions-places : goal.bounds-sessions-places
bounds-sessions-places c =
    let places : List ℕ = c.args.places.now in
    let i : ℕ = c.loop-i.i in
    let inside : i < length places = grind arith in
    c.requires.below (slice_index_or places i 0) (i, slice_get-get_or places i 0 inside)

pub order_where_needed-requires-clause-known : goal.order_where_needed-requires-clause-known
order_where_needed-requires-clause-known c =
    let h = c.args.index.now.history in
    let list : List ℕ = c.args.sessions.now in
    let places : List ℕ = c.args.places.now in
    let i : ℕ = c.loop-i.i in
    let inside : i < length places = grind arith in
    let place : ℕ = slice_index_or places i 0 in
    let listed = listed-exists h list c.requires.sessions place (c.requires.below place (i, slice_get-get_or places i 0 inside)) in
    let some = listed.1 in
    record {
      straight = order_by-straight h [] c.args.order.now c.requires.order;
      distinct = c.value_is_indexed.ensures.distinct;
      variables = c.value_is_indexed.ensures.variables;
      few = c.loop-i.invariant.clear.few;
      exists = listed.0;
      operation = omega arith;
    }

pub loop-i-preserved : goal.loop-i-preserved
loop-i-preserved c =
    let h = c.args.index.now.history in
    let list : List ℕ = c.args.sessions.now in
    let places : List ℕ = c.args.places.now in
    let i : ℕ = c.loop-i.i in
    let inside : i < length places = grind arith in
    let place : ℕ = slice_index_or places i 0 in
    let was = c.loop-i.invariant in
    let here : IsOrderedAt h list place =
    subst (IsOutcome h (slice_index_or list place 0)) c.in-Explained.is c.in_ok-shown.ensures.outcome in
    record {
      beginning = c.in_ok-shown.ensures.beginning;
      clear = c.in_ok-shown.ensures.clear c.in-Explained.is;
      sessions = c.in_ok-shown.ensures.sessions ∙ was.sessions;
      ordered = places-more h list places i place (slice_get-get_or places i 0 inside) was.ordered here;
    }

pub returns : goal.returns
returns c =
    let h = c.args.index.now.history in
    let list : List ℕ = c.args.sessions.now in
    let places : List ℕ = c.args.places.now in
    let whole : length places ≤ c.loop-i.i = grind arith in
    ordered-all h list c.requires.sessions (left-ordered h list places c.requires.others
    (λ k has. let within = slice_get_within places has.0 k has.1 in c.loop-i.invariant.ordered has.0 k (omega arith) has.1))
