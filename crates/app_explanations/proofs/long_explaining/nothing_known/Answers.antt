use Rattle.app_explanations.proofs.Reports.{long_unknown}
use Rattle.app_explanations.proofs.long_explaining.nothing_known.Goals as goal

pub returns : goal.returns
returns c = λ h repeated over. long_unknown h over repeated
