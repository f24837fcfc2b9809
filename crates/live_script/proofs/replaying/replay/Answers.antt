use Rattle.std.proofs.Common.{subst}
use Rattle.std.specs.Prelude.{string_bytes}
use Rattle.live_script.specs.Replays.{IsReplay}
use Rattle.live_script.proofs.KeptReplays.{any_kept_replay}
use Rattle.live_script.proofs.replaying.replay.Goals as goal

pub returns-clause-replayed : goal.returns-clause-replayed
returns-clause-replayed c =
    let read = c.in_ok-script.ensures.read in
    (read.0, read.1, read.2, any_kept_replay read.0 read.2 (string_bytes c.in_ok-replay_script.field-0) (subst (λ script. IsReplay script (string_bytes c.in_ok-replay_script.field-0)) read.3 c.in_ok-replay_script.ensures))
