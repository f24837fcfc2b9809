use Rattle.app_engine.proofs.LineAnswerLaws.{longer_answers}
use Rattle.app_engine.proofs.line_judge.LineJudgeLineHandler.answer_long.Goals as goal

pub returns-clause-answered : goal.returns-clause-answered
returns-clause-answered c =
    longer_answers c.args.self.now.judging c.args.text.now.items c.append_refusal.new.text.items
    c.append_refusal.result c.append_refusal.ensures.answered
