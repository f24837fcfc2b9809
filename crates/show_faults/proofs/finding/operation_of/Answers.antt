use Rattle.std.proofs.Common.{arith, ap}
use Rattle.model_history.specs.History.{many_before}
use Rattle.judge_memory.proofs.Numbers.{number-found}
use Rattle.show_faults.proofs.finding.operation_of.Goals as goal

pub overflow_sub-operation : goal.overflow_sub-operation
overflow_sub-operation c =
    let h = c.args.index.now.history in
    let o = number-found h c.args.operation c.requires in
    let at = o.2 in
    let start = c.start.ensures.number in
    let same = ap (many_before h) (c.session_of-session.ensures.session o.0 o.1 at) in
    omega arith
