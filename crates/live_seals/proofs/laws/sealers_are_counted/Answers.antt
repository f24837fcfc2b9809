use Rattle.live_seals.proofs.RunPlaces.{sealer_started, started_told}
use Rattle.live_seals.proofs.laws.sealers_are_counted.Goals as goal

pub returns : goal.returns
returns g c = λ k cap es z told run. (λ at. sealer_started k cap es run z told at, λ start. started_told k cap es run z start.0 told start.1)
