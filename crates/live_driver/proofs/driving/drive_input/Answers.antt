use Rattle.std.proofs.Common.{◌≡◌, length}
use Rattle.live_driver.specs.Clients.{AreSealsOf, HaveFirstCalls}
use Rattle.live_driver.specs.Drives.{AreOfInput}
use Rattle.live_driver.proofs.Gathered.{of_input}
use Rattle.live_driver.proofs.Results.{if_two}
use Rattle.live_driver.proofs.driving.drive_input.Goals as goal

pub play_all-requires-clause-fresh : goal.play_all-requires-clause-fresh
play_all-requires-clause-fresh g c κs within = rw c.deref.ensures c.in_ok-lanes.ensures.fresh

pub returns-clause-each : goal.returns-clause-each
returns-clause-each g c =
    let lanes = c.deref.result.now in
    let input = c.args.input.now in
    let start : lanes.start ≡ input.0 = rw c.deref.ensures c.in_ok-lanes.ensures.start in
    let many : length lanes.cells ≡ length input.1 = rw c.deref.ensures c.in_ok-lanes.ensures.lanes in
    if_two (λ sealed. AreSealsOf lanes sealed.items) (λ sealed. HaveFirstCalls input sealed.items) (λ sealed. AreOfInput input sealed.items) c.seals_of.result
    (λ sealed all first j x h. of_input lanes input x start many (all j x h) (first j x h)) c.seals_of.ensures.seals c.seals_of.ensures.calls

pub returns-clause-last : goal.returns-clause-last
returns-clause-last g c = c.seals_of.ensures.last

pub returns-clause-many : goal.returns-clause-many
returns-clause-many g c = c.seals_of.ensures.many
