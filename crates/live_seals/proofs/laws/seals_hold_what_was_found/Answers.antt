use Rattle.live_seals.proofs.ConsistentCuts.{found_are_held}
use Rattle.live_seals.proofs.laws.seals_hold_what_was_found.Goals as goal

pub returns-clause-returns : goal.returns-clause-returns
returns-clause-returns g c = λ k cap es z plan start run sealed s l. (found_are_held k cap es z plan start run sealed s l).0

pub returns-clause-operations : goal.returns-clause-operations
returns-clause-operations g c = λ k cap es z plan start run sealed s l. (found_are_held k cap es z plan start run sealed s l).1
