use Rattle.std.proofs.Common.{◌<◌, arith}
use Rattle.model_history.specs.declared.limits.TheConstants.{MAX_SESSIONS}
use Rattle.live_replica.proofs.replica.Replica.is_ready.Goals as goal

pub returns-then-update-counts : goal.returns-then-update-counts
returns-then-update-counts g c =
    let below : c.args.update.now.session < MAX_SESSIONS = omega arith in
    let told = c.requires c.args.update.now.session below in (
      (λ e. absurd cc),
      λ ready. let next = ready.next in absurd (c.if-update-counts.true (cc)),
    )
