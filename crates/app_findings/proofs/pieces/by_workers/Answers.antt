use Rattle.std.proofs.Common.{subst}
use Rattle.live_case_answers.specs.Shown.{IsSaidOfFile}
use Rattle.app_findings.proofs.InRange.{said_in_range}
use Rattle.app_findings.proofs.pieces.by_workers.Goals as goal

pub returns-in-Ok-clause-range : goal.returns-in-Ok-clause-range
returns-in-Ok-clause-range g c =
    let object = g.O.SeqObject in
    let made = c.in_ok-file.ensures in
    said_in_range object.answer c.args.history object.is_start object.matches c.value_is_history.ensures c.args.certificate made.shape
    c.in-Ok.answer (subst (λ file. IsSaidOfFile object.answer file c.in-Ok.answer) made.file c.in-Ok.ensures.said)
