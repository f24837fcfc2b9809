use Rattle.std.proofs.Common.{◌∙◌, sym}
use Rattle.judge_memory.proofs.Numbers.{number-found}
use Rattle.judge_memory.proofs.IndexedLaws.{later-before}
use Rattle.judge_memory.proofs.long_index.LongIndex.before.Goals as goal

pub overflow_sub-result : goal.overflow_sub-result
overflow_sub-result c =
    let found = number-found c.args.self.now.history c.args.operation c.requires in
    (later-before c.args.self.now.history found.0 c.args.operation c.session_of.result found.1 found.2
    (c.session_of.ensures.session found.0 found.1 found.2)
    (λ first. c.if-operation-start.false (first ∙ sym c.start.ensures.number))).0

pub returns-else-operation-start-clause-before : goal.returns-else-operation-start-clause-before
returns-else-operation-start-clause-before c = λ o is_op at.
    (later-before c.args.self.now.history o c.args.operation c.session_of.result is_op at
    (c.session_of.ensures.session o is_op at)
    (λ first. c.if-operation-start.false (first ∙ sym c.start.ensures.number))).1
