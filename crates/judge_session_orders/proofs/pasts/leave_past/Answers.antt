use Rattle.std.specs.Prelude.{◌≤◌, [], length}
use Rattle.std.proofs.Common.{arith, subst, ◌∙◌}
use Rattle.std.proofs.lemmas.List.{drop_all}
use Rattle.judge_memory.specs.Steps.{IsListedEdge}
use Rattle.judge_memory.proofs.Numbers.{one_more}
use Rattle.judge_session_orders.specs.Pasts.{AreReadEdges}
use Rattle.judge_session_orders.specs.SessionOrders.{last_op}
use Rattle.judge_session_orders.specs.Tables.{left_counts}
use Rattle.judge_session_orders.proofs.PastLaws.{past-first, past-next, past-whole}
use Rattle.judge_session_orders.proofs.ReadEdges.{edge-at, edges-done}
use Rattle.judge_session_orders.proofs.pasts.leave_past.Goals as goal

pub loop-i-init : goal.loop-i-init
loop-i-init c =
    let h = c.args.index.now.history in
    let more = one_more h c.args.own c.requires.exists in
    let raised = c.raise.ensures.raised in
    let end = c.end.ensures.number in
    let before = c.requires.none c.args.own in
    record {
      sessions = c.raise.ensures.size ∙ c.requires.sessions;
      past = (
        length c.args._order.now,
        past-first h (IsListedEdge h []) c.args._order.now c.requires.order (last_op h c.args.own) c.requires.operation
            (left_counts h c.raise.new.numbers.items) (omega arith)
            (λ u apart. let same = c.raise.ensures.others u apart in let none = c.requires.none u in omega arith),
        c.requires.edges,
      );
    }

pub leave_source-requires-clause-below : goal.leave_source-requires-clause-below
leave_source-requires-clause-below c =
    let h = c.args.index.now.history in
    let past = c.loop-i.invariant.past in
    let sizes = c.loop-i.invariant.sessions in
    let next = edge-at h (IsListedEdge h []) c.args._order.now c.requires.order (last_op h c.args.own)
    (left_counts h c.loop-i.ends.items) past.0 c.args.edges.now c.loop-i.i c.loop-i-test.true past.1 past.2 in
    let below = next.edge.below in
    omega arith

pub leave_source-requires-clause-source_below : goal.leave_source-requires-clause-source_below
leave_source-requires-clause-source_below c =
    let h = c.args.index.now.history in
    let past = c.loop-i.invariant.past in
    let sizes = c.loop-i.invariant.sessions in
    let next = edge-at h (IsListedEdge h []) c.args._order.now c.requires.order (last_op h c.args.own)
    (left_counts h c.loop-i.ends.items) past.0 c.args.edges.now c.loop-i.i c.loop-i-test.true past.1 past.2 in
    let below = next.edge.source_below in
    omega arith

pub loop-i-preserved : goal.loop-i-preserved
loop-i-preserved c =
    let h = c.args.index.now.history in
    let order = c.args._order.now in
    let o = last_op h c.args.own in
    let past = c.loop-i.invariant.past in
    let old = left_counts h c.loop-i.ends.items in
    let new = left_counts h c.leave_source.new.ends.items in
    let next = edge-at h (IsListedEdge h []) order c.requires.order o old past.0 c.args.edges.now c.loop-i.i c.loop-i-test.true past.1
    past.2 in
    record {
      sessions = c.leave_source.ensures.sessions ∙ c.loop-i.invariant.sessions;
      past = (
        next.place,
        past-next h (IsListedEdge h []) order c.requires.order o next.place next.read next.is_op next.at old new
            (c.leave_source.ensures.raised next.read next.edge) next.past,
        next.others,
      );
    }

pub returns-clause-left : goal.returns-clause-left
returns-clause-left c =
    let h = c.args.index.now.history in
    let past = c.loop-i.invariant.past in
    let o = last_op h c.args.own in
    let left = left_counts h c.loop-i.ends.items in
    let over : length c.args.edges.now ≤ c.loop-i.i = (let end = c.loop-i-test.false in omega arith) in
    past-whole h (IsListedEdge h []) c.args._order.now c.requires.order o c.requires.operation left
    (edges-done h (IsListedEdge h []) c.args._order.now c.requires.order o left past.0 past.1
    (subst (AreReadEdges h c.args._order.now past.0) (drop_all c.loop-i.i c.args.edges.now over) past.2))
