use Rattle.app_judging.proofs.JudgedLaws.{ok-follows, said-founded}
use Rattle.app_judging.proofs.judging.judge_file.Goals as goal

pub returns-clause-founded : goal.returns-clause-founded
returns-clause-founded g c =
    ok-follows c.answer_of_file.result
    (said-founded g.O.SeqObject.answer c.explained_certificates_show_their_criterion.ensures c.args.file c.certificate-certificate.ensures.is_case_file)
    c.answer_of_file.ensures.said
