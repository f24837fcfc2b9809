use Rattle.live_driver.proofs.Calls.{played}
use Rattle.live_driver.proofs.playing.play_calls.Goals as goal

pub returns-in-Ok-clause-played : goal.returns-in-Ok-clause-played
returns-in-Ok-clause-played g c =
    let run = c.args.run.now in
    let end = c.play_ended.new.client in
    played run.lanes.now run.input.now c.args.s c.ended_calls-ended.result end.session end.replica c.in_ok-receipt.ensures.at run.plan.stop _ c.in-Ok.ensures.lane c.in-Ok.ensures.recorded c.in_ok-receipt.ensures.receipt c.in-Ok.ensures.seals c.ended_calls-ended.ensures.but_one
