use Rattle.live_driver.proofs.sealing.numbered.Goals as goal

pub returns-in-Some-clause-left : goal.returns-in-Some-clause-left
returns-in-Some-clause-left g c = c.take_out.ensures.left

pub returns-in-Some-clause-seal : goal.returns-in-Some-clause-seal
returns-in-Some-clause-seal g c = c.take_out.ensures.seal
