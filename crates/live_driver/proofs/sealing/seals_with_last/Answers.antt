use Rattle.std.proofs.Common.{◌+◌, length, ap, ◌∙◌}
use Rattle.live_recorder.proofs.Telling.{length_push}
use Rattle.live_driver.proofs.Calls.{one_more_seal}
use Rattle.live_driver.proofs.Gathered.{last_repeats}
use Rattle.live_driver.proofs.sealing.seals_with_last.Goals as goal

pub returns-clause-seals : goal.returns-clause-seals
returns-clause-seals g c = one_more_seal c.args.run.now.lanes.now c.in_ok-sealed.sealed.items c.push.new.self.items c.in_ok-last.last c.in_ok-push.ensures.items c.in_ok-last.ensures.seal c.in_ok-sealed.ensures.seals

pub returns-clause-last : goal.returns-clause-last
returns-clause-last g c =
    let run = c.args.run.now in
    last_repeats run.plan.stop run.input.now c.in_ok-sealed.sealed.items c.push.new.self.items c.in_ok-last.last run.plan.seals c.in_ok-sealed.ensures.many c.in_ok-push.ensures.items c.in_ok-last.ensures.calls

pub returns-clause-many : goal.returns-clause-many
returns-clause-many g c =
    ap length c.in_ok-push.ensures.items ∙ (length_push c.in_ok-sealed.sealed.items c.in_ok-last.last ∙ ap (λ n. n + 1) c.in_ok-sealed.ensures.many)
