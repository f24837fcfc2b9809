use Rattle.std.proofs.Common.{arith, ap}
use Rattle.order_causal.proofs.OrdersLaws.{session-of_history}
use Rattle.model_history.specs.declared.op_id.OpId.{OpId}
use Rattle.judge_memory.proofs.Numbers.{number-found}
use Rattle.show_faults.proofs.Tallied.{tally-below, tally-more, tally-rows_below, tally-same}
use Rattle.show_faults.proofs.finding.add_fault.Goals as goal

pub add-requires-clause-small : goal.add-requires-clause-small
add-requires-clause-small c =
    let few = c.requires.few in
    tally-below c.args.index.now.history c.args.most c.args.operation c.args.faults.now.listed.items c.args.faults.now.counts
    c.args.faults.now.by_session.items c.requires.tally 4294967295 (omega arith)

pub add-requires-clause-small_rows : goal.add-requires-clause-small_rows
add-requires-clause-small_rows c =
    let few = c.requires.few in
    tally-rows_below c.args.index.now.history c.args.most c.args.operation c.args.faults.now.listed.items c.args.faults.now.counts
    c.args.faults.now.by_session.items c.requires.tally 4294967295 (omega arith)

pub add-requires-clause-session : goal.add-requires-clause-session
add-requires-clause-session c =
    let h = c.args.index.now.history in
    let o = number-found h c.args.operation c.requires.operation in
    let found = c.in-Some.ensures o.0 o.1 o.2 in
    let same = ap (λ (q : OpId). q.session) found.1 in
    let inside = session-of_history h o.0 o.1 in
    let few = c.requires.few_sessions in
    omega arith

pub returns-in_ok-add-in-Some-clause-tally : goal.returns-in_ok-add-in-Some-clause-tally
returns-in_ok-add-in-Some-clause-tally c =
    let h = c.args.index.now.history in
    let o = number-found h c.args.operation c.requires.operation in
    tally-more h c.args.most c.args.operation c.args.faults.now.listed.items c.args.faults.now.counts c.args.faults.now.by_session.items
    c.requires.tally o.0 o.1 o.2 c.value_is_indexed.ensures.distinct c.in-Some.fault (c.in-Some.ensures o.0 o.1 o.2)
    c.add.new.self.listed.items c.add.new.self.counts c.add.new.self.by_session.items c.in_ok-add-in-Some.ensures.tally

pub returns-in-None-clause-tally : goal.returns-in-None-clause-tally
returns-in-None-clause-tally c =
    let h = c.args.index.now.history in
    let o = number-found h c.args.operation c.requires.operation in
    tally-same h c.args.most c.args.operation c.args.faults.now.listed.items c.args.faults.now.counts c.args.faults.now.by_session.items
    c.requires.tally o.0 o.1 o.2 (c.in-None.ensures o.0 o.1 o.2)
