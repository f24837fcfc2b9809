use Rattle.app_engine.proofs.Outcomes.{answered_is_not_refused}
use Rattle.app_engine.proofs.laws.answered_input_is_not_refused.Goals as goal

pub returns : goal.returns
returns c = answered_is_not_refused
