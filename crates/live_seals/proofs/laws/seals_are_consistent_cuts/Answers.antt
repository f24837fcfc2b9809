use Rattle.live_seals.proofs.ConsistentCuts.{seals_are_cuts}
use Rattle.live_seals.proofs.laws.seals_are_consistent_cuts.Goals as goal

pub returns : goal.returns
returns g c = λ k cap es z plan start. seals_are_cuts k cap es z plan start
