use Rattle.app_engine.proofs.Outcomes.{too_long-fails, too_long-not_answered}
use Rattle.app_engine.proofs.laws.too_long_input_is_refused_as_such.Goals as goal

pub returns-clause-output : goal.returns-clause-output
returns-clause-output c = too_long-not_answered

pub returns-clause-failure : goal.returns-clause-failure
returns-clause-failure c = too_long-fails
