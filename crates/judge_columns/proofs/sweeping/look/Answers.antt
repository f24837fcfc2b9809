use Rattle.std.proofs.Common.{arith}
use Rattle.judge_columns.proofs.Sights.{looks-beside, looks-none, looks-start}
use Rattle.judge_columns.proofs.sweeping.look.Goals.{then-after-start-via-then-after-start}
use Rattle.judge_columns.proofs.sweeping.look.Goals.{then-after-start-via-else-after-start+then-ends-operation}
use Rattle.judge_columns.proofs.sweeping.look.Goals as goal

pub returns-then-after-start-clause-sight : goal.returns-then-after-start-clause-sight
returns-then-after-start-clause-sight c t o begins is_op at within table =
    looks-none c.args.index.now.history c.args.index.now.variables c.value_is_indexed.ensures.variables t c.args.ends.now
    c.args.firsts.now c.args.last.now c.args.start c.args.operation c.variable.result begins o is_op at
    c.variable.ensures.variable within table
    (λ both.
    let from = both.0 in
    let to = both.1 in
    elim c.then-after-start.branch [
      | then-after-start-via-then-after-start w ↦ (let up_to = w.if-after-start.true in omega arith)
      | then-after-start-via-else-after-start+then-ends-operation w ↦ (let below = w.if-ends-operation.true in omega arith)
    ])

pub returns-in-InitialRead-clause-sight : goal.returns-in-InitialRead-clause-sight
returns-in-InitialRead-clause-sight c t o begins is_op at within table =
    looks-start c.args.index.now.history c.args.index.now.variables c.value_is_indexed.ensures.variables t c.args.ends.now
    c.args.firsts.now c.args.last.now c.args.start c.args.operation c.variable.result begins o is_op at
    c.variable.ensures.variable within table
    c.if-after-start.false c.if-ends-operation.false (c.in-InitialRead.ensures.part o is_op at)

pub returns-in-SourcedRead-clause-sight : goal.returns-in-SourcedRead-clause-sight
returns-in-SourcedRead-clause-sight c t o begins is_op at within table =
    looks-beside c.args.index.now.history c.args.index.now.variables c.value_is_indexed.ensures.variables t c.args.ends.now
    c.args.firsts.now c.args.last.now c.args.start c.args.operation c.variable.result begins o is_op at
    c.variable.ensures.variable within table
    c.if-after-start.false c.if-ends-operation.false c.value_is_indexed.ensures.distinct c.in-SourcedRead.source c.look_beside.result
    (c.in-SourcedRead.ensures.part o is_op at) c.look_beside.ensures.comparison
