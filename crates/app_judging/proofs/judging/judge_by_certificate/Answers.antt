use Rattle.app_judging.proofs.JudgedLaws.{made-founded, made-known, ok-follows}
use Rattle.app_judging.proofs.judging.judge_by_certificate.Goals as goal

pub returns-clause-founded : goal.returns-clause-founded
returns-clause-founded g c =
    ok-follows c.judge_file.result
    (made-founded g.O.SeqObject.answer c.args.h c.args.criterion c.in_ok-file.file.2 c.in_ok-file.file c.in_ok-file.ensures.file)
    c.judge_file.ensures.founded

pub returns-clause-decided : goal.returns-clause-decided
returns-clause-decided g c = λ decides met.
    ok-follows c.judge_file.result
    (made-known g.O.SeqObject.answer c.args.h c.args.criterion c.in_ok-file.file.2 c.in_ok-file.file c.in_ok-file.ensures.file
    (c.in_ok-file.ensures.decided decides met))
    c.judge_file.ensures.said
