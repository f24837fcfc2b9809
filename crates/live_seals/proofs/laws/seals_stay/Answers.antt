use Rattle.live_seals.proofs.ConsistentCuts.{seal_stays}
use Rattle.live_seals.proofs.laws.seals_stay.Goals as goal

pub returns : goal.returns
returns g c = λ k cap es z j plan start run sealed. seal_stays k cap es run z j plan sealed start
