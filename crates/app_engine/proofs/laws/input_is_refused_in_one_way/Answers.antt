use Rattle.app_engine.proofs.Outcomes.{refused_in_one_way}
use Rattle.app_engine.proofs.laws.input_is_refused_in_one_way.Goals as goal

pub returns : goal.returns
returns c = refused_in_one_way
