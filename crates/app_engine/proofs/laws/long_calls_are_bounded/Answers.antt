use Rattle.app_engine.proofs.CallCounts.{idles_bounded}
use Rattle.app_engine.proofs.laws.long_calls_are_bounded.Goals as goal

pub returns : goal.returns
returns g c = λ count keeps grows most bytes old new idles growth. idles_bounded g.S.Source.called most count keeps grows bytes old new growth idles
