use Rattle.std.specs.Prelude.{◌≡◌, ◌<◌, length}
use Rattle.std.proofs.Common.{arith}
use Rattle.std.proofs.lemmas.Bool.Decides.{nat_tests}
use Rattle.judge_memory.specs.Steps.{IsListedEdge}
use Rattle.judge_memory.specs.Placements.{next_of}
use Rattle.judge_memory.proofs.Placings.{so_far-few}
use Rattle.judge_memory.proofs.Orders.{listed-of_history}
use Rattle.judge_memory.proofs.RunSteps.{order-stuck, order-whole}
use Rattle.judge_memory.proofs.rounds.order.Goals as goal

pub returns-then-len-before : goal.returns-then-len-before
returns-then-len-before c =
    let some : 0 < length c.round.new.sessions.items = grind (arith, nat_tests) in
    let as_long : length c.loop-sessions.placement.order.items ≡ length c.round.new.self.order.items = grind arith in
    order-stuck c.args.index.now.history c.args.edges.now c.round.new.self.next.items c.round.new.self.order.items
    c.in_ok-round.ensures.placement c.round.new.sessions.items some c.in_ok-round.ensures.sessions (c.in_ok-round.ensures.stuck as_long)

pub loop-sessions-smaller : goal.loop-sessions-smaller
loop-sessions-smaller c =
    let h = c.args.index.now.history in
    let few = so_far-few h (IsListedEdge h c.args.edges.now) (listed-of_history h c.args.edges.now) (next_of c.round.new.self.next.items)
    c.round.new.self.order.items c.in_ok-round.ensures.placement.so_far in
    let longer = c.in_ok-round.ensures.longer in
    let apart = c.if-len-before.false in
    grind arith

pub loop-sessions-init : goal.loop-sessions-init
loop-sessions-init c = record { placement = c.in_ok-placement.ensures c.args.edges.now; sessions = c.in_ok-sessions.ensures }

pub loop-sessions-preserved : goal.loop-sessions-preserved
loop-sessions-preserved c = record { placement = c.in_ok-round.ensures.placement; sessions = c.in_ok-round.ensures.sessions }

pub unfinished-requires-clause-placement : goal.unfinished-requires-clause-placement
unfinished-requires-clause-placement c = c.in_ok-placement.ensures c.args.edges.now

pub round-requires-clause-placement : goal.round-requires-clause-placement
round-requires-clause-placement c = c.loop-sessions.invariant.placement

pub round-requires-clause-sessions : goal.round-requires-clause-sessions
round-requires-clause-sessions c = c.loop-sessions.invariant.sessions

pub returns-then-is_empty : goal.returns-then-is_empty
returns-then-is_empty c =
    let none : length c.round.new.sessions.items ≡ 0 = grind (arith, nat_tests) in
    order-whole c.args.index.now.history c.args.edges.now c.round.new.self.next.items c.round.new.self.order.items c.in_ok-round.ensures.placement
    c.round.new.sessions.items none c.in_ok-round.ensures.sessions
