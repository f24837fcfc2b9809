use Rattle.app_engine.proofs.LineAnswerLaws.{refusal_answers}
use Rattle.app_engine.proofs.line_answers.append_answer_on_history.Goals as goal

pub returns-in-Err-clause-answered : goal.returns-in-Err-clause-answered
returns-in-Err-clause-answered c =
    refusal_answers c.args.judging.length c.args.judging.expected c.args.line.now c.args.text.now.items c.append_refusal.new.text.items c.in-Err.error c.append_refusal.result
    c.in-Err.ensures.error c.append_refusal.ensures.answered
