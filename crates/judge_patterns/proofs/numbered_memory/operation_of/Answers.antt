use Rattle.std.proofs.Common.{arith}
use Rattle.judge_patterns.proofs.Places.{number-place, start-up_to}
use Rattle.judge_patterns.proofs.numbered_memory.operation_of.Goals as goal

pub overflow_sub-place : goal.overflow_sub-place
overflow_sub-place c =
    let up_to = start-up_to c.args.index.now.history c.args.operation c.session_of-session.result c.session_of-session.ensures.session c.requires in
    omega arith

pub returns : goal.returns
returns c =
    number-place c.args.index.now.history c.args.operation c.session_of-session.result c.session_of-session.ensures.session c.from.result c.from-2.result
    (omega arith) (omega arith)
