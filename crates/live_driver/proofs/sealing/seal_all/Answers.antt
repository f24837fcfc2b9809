use Rattle.live_seals.specs.Seals.{HoldsAll}
use Rattle.live_driver.specs.Drives.{RepeatsCalls}
use Rattle.live_driver.proofs.Gathered.{repeats}
use Rattle.live_driver.proofs.Results.{if_ok}
use Rattle.live_driver.proofs.sealing.seal_all.Goals as goal

pub returns-clause-calls : goal.returns-clause-calls
returns-clause-calls g c =
    let run = c.args.run.now in
    if_ok (λ x. HoldsAll x.history c.args.receipts.now.items) (λ x. RepeatsCalls run.plan.stop run.input.now x.history) c.seal_told.result (λ x holds. repeats run.plan.stop run.input.now x.history c.args.receipts.now.items holds c.requires.calls) c.seal_told.ensures.holds
