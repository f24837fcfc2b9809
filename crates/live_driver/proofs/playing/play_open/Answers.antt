use Rattle.std.proofs.Common.{◌<◌, length, arith}
use Rattle.model_history.specs.History.{session}
use Rattle.live_driver.specs.Clients.{IsRecorded}
use Rattle.live_driver.proofs.FirstCalls.{recorded_at, recorded_open}
use Rattle.live_driver.proofs.Results.{on_any}
use Rattle.live_driver.proofs.playing.play_open.Goals as goal

pub returns-then-ended-len-clause-recorded : goal.returns-then-ended-len-clause-recorded
returns-then-ended-len-clause-recorded g c =
    let run = c.args.run.now in
    recorded_at run.lanes.now run.input.now c.args.s c.args.ended c.args.client.now.session c.args.client.now.replica c.requires.at c.requires.within

pub returns-clause-recorded : goal.returns-clause-recorded
returns-clause-recorded g c =
    let run = c.args.run.now in
    let own = c.args.client.now.session in
    let own' = c.leave_open.new.self.session in
    let less : c.args.ended < length (session run.input.now c.args.s) = omega (arith, c.if-ended-len.false, c.len.ensures.count) in
    on_any (IsRecorded run.lanes.now run.input.now own') c.take_due.result
    (recorded_open run.lanes.now run.input.now c.args.s c.args.ended own c.args.client.now.replica c.requires.at own' c.call_at-call.result less c.call_at-call.ensures
    c.in_ok-leave_open.ensures.begun)
