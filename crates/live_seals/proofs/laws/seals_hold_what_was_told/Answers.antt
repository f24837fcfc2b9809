use Rattle.live_seals.proofs.ConsistentCuts.{told_are_held}
use Rattle.live_seals.proofs.laws.seals_hold_what_was_told.Goals as goal

pub returns : goal.returns
returns g c = λ k cap es z plan start. told_are_held k cap es z plan start
