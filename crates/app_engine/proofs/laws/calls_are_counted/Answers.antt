use Rattle.app_engine.proofs.ReadCallLaws.{counted_at_most}
use Rattle.app_engine.proofs.laws.calls_are_counted.Goals as goal

pub returns : goal.returns
returns g c = counted_at_most g.S.Source.called
