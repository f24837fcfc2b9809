use Rattle.live_driver.proofs.Calls.{one_more_seal}
use Rattle.live_driver.proofs.playing.take_if_due.Goals as goal

pub returns-clause-seals : goal.returns-clause-seals
returns-clause-seals g c = one_more_seal c.args.run.now.lanes.now c.args.seals.now.items c.push.new.self.items _ c.in_ok-push.ensures.items c.in_ok-sealed.ensures.seal c.requires
