use Rattle.model_history.specs.History.{calls}
use Rattle.cert_check.proofs.replay.Replay.take_in_kept.Goals as goal

pub returns-then-answered-clause-answer : goal.returns-then-answered-clause-answer
returns-then-answered-clause-answer g c = λ taken stands. (
  (λ _ _. (c.in_ok-answered.ensures.answer (calls c.args.h.now taken) stands).0 c.if-answered.true),
  λ _. c.if-answered.true,
)

pub returns-then-answered-clause-state : goal.returns-then-answered-clause-state
returns-then-answered-clause-state g c = λ taken stands. c.in_ok-answered.ensures.state taken stands

pub returns-else-answered-clause-state : goal.returns-else-answered-clause-state
returns-else-answered-clause-state g c = λ taken stands. c.in_ok-answered.ensures.state taken stands
