use Rattle.std.proofs.Common.{rules}
use Rattle.live_simulation.specs.Steps.Recordings.{IsTellableIn}
use Rattle.live_simulation.proofs.Sealers.{start_at}
use Rattle.live_simulation.proofs.recording.Recording.start.Goals as goal

pub returns : goal.returns
returns g c =
    let t : IsTellableIn c.args.self.now c.counts-counts.result.now = search rules in
    start_at g.O.SeqObject.matches c.args.self.now c.args.told.now c.counts-counts.result.now c.sealers-number.result c.push_plan.new.self c.counts-counts.ensures c.sealers-number.ensures t c.in_ok-push_plan.ensures
