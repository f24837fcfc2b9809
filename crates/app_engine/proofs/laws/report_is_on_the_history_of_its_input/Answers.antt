use Rattle.app_engine.proofs.Outcomes.{reported_history}
use Rattle.app_engine.proofs.laws.report_is_on_the_history_of_its_input.Goals as goal

pub returns : goal.returns
returns c = reported_history
