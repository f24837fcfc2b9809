use Rattle.live_driver.specs.Clients.{HaveCallsOf, HaveFirstCalls}
use Rattle.live_driver.proofs.FirstCalls.{first_of_all}
use Rattle.live_driver.proofs.Results.{on_ok}
use Rattle.live_driver.proofs.first_calls.check_seals.Goals as goal

pub returns-clause-calls : goal.returns-clause-calls
returns-clause-calls g c =
    let input = c.args.run.now.input.now in
    let owns = c.args.sessions.now.items in
    let seals = c.args.seals.now.items in
    on_ok (HaveCallsOf input owns seals) (HaveFirstCalls input seals) c.check_each.result (first_of_all input owns seals c.requires.lanes) c.check_each.ensures.calls
