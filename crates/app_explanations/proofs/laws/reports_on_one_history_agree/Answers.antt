use Rattle.app_explanations.proofs.Agreement.{reports_agree}
use Rattle.app_explanations.proofs.laws.reports_on_one_history_agree.Goals as goal

pub returns : goal.returns
returns c = reports_agree
