use Rattle.live_driver.specs.Clients.{AreSealsOf}
use Rattle.live_driver.proofs.playing.take_due.Given as goal

abbrev pub invariant-loop-number : goal.invariant-loop-number
invariant-loop-number g l = AreSealsOf l.run.lanes.now l.seals.items
