use Rattle.std.proofs.Common.{◌≡◌, subst, arith}
use Rattle.live_driver.specs.Clients.{IsAt}
use Rattle.live_driver.proofs.Calls.{at_more}
use Rattle.live_driver.proofs.playing.play_ended.Goals as goal

pub loop-at-preserved : goal.loop-at-preserved
loop-at-preserved g c =
    let run = c.args.run.now in
    let old = c.loop-at.client in
    let new = c.play.new.self in
    record {
      at = at_more run.lanes.now run.input.now c.args.s c.loop-at.at old.session new.session old.replica new.replica c.call_at-call.result c.loop-at.invariant.at c.call_at-call.ensures c.in_ok-play.ensures.returned c.in_ok-play.ensures.answered;
      receipt = c.in_ok-play.ensures.receipt;
      seals = c.in_ok-take_due.ensures.seals;
    }

pub returns-clause-at : goal.returns-clause-at
returns-clause-at g c =
    let run = c.args.run.now in
    let past = c.loop-at-test.false in
    let within = c.loop-at.auto.at-end in
    let e : c.loop-at.at ≡ c.args.ended = omega arith in
    subst (λ n. IsAt run.lanes.now run.input.now c.args.s n c.loop-at.client.session c.loop-at.client.replica) e c.loop-at.invariant.at

pub play-requires-clause-answers : goal.play-requires-clause-answers
play-requires-clause-answers g c = omega (arith, c.loop-at.invariant.at.answered, c.loop-at-test.true, c.requires.short)
