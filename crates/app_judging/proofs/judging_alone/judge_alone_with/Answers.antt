use Rattle.cert_check.specs.Criteria.{Meets}
use Rattle.app_judging.specs.Judgements.{IsUnexplainedOf}
use Rattle.app_judging.proofs.JudgedLaws.{founded-met, ok-follows, said-founded}
use Rattle.app_judging.proofs.judging_alone.judge_alone_with.Goals as goal

pub returns-clause-founded : goal.returns-clause-founded
returns-clause-founded g c =
    ok-follows c.answer_alone.result
    (said-founded g.O.SeqObject.answer c.explained_certificates_show_their_criterion.ensures c.args.file.now c.certificate-certificate.ensures.is_case_file)
    c.answer_alone.ensures.said

pub returns-clause-met : goal.returns-clause-met
returns-clause-met g c =
    let answer = g.O.SeqObject.answer in
    let file = c.args.file.now in
    ok-follows c.answer_alone.result
    (λ said of_file yes. founded-met (Meets answer file.0 file.1) (λ kind. ⊥) (IsUnexplainedOf answer file.0 file.1) said
    (said-founded answer c.explained_certificates_show_their_criterion.ensures file c.certificate-certificate.ensures.is_case_file said of_file) yes)
    c.answer_alone.ensures.said
