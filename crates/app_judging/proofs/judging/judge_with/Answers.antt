use Rattle.cert_check.specs.Criteria.{Meets}
use Rattle.app_judging.specs.Judgements.{IsUnexplainedOf}
use Rattle.app_judging.proofs.JudgedLaws.{founded-met, ok-follows}
use Rattle.app_judging.proofs.judging.judge_with.Goals as goal

pub returns-clause-met : goal.returns-clause-met
returns-clause-met g c =
    let answer = g.O.SeqObject.answer in
    let file = c.args.file in
    ok-follows c.judge_file.result
    (founded-met (Meets answer file.0 file.1) (λ kind. ⊥) (IsUnexplainedOf answer file.0 file.1))
    c.judge_file.ensures.founded
