use Rattle.std.specs.Prelude.{slice_get}
use Rattle.model_history.specs.History.{session}
use Rattle.live_driver.proofs.Calls.{called_at}
use Rattle.live_driver.proofs.input.call_at.Goals as goal

pub returns : goal.returns
returns g c = λ k known is. called_at (slice_get (session c.args.input.now c.args.s) c.args.at) c.call.result k known c.call.ensures is
