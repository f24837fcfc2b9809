use Rattle.std.proofs.Common.{IfOk, subst}
use Rattle.live_case_answers.specs.Shown.{IsSaidOfFile}
use Rattle.app_findings.proofs.InRange.{all_in_range}
use Rattle.app_findings.proofs.pieces.by_caller.Goals as goal

pub returns-clause-range : goal.returns-clause-range
returns-clause-range g c =
    let object = g.O.SeqObject in
    let made = c.in_ok-file.ensures in
    all_in_range object.answer c.args.history object.is_start object.matches c.value_is_history.ensures c.args.certificate made.shape
    c.judge_alone_with.result
    (subst (λ file. IfOk c.judge_alone_with.result (IsSaidOfFile object.answer file)) made.file c.judge_alone_with.ensures.said)
