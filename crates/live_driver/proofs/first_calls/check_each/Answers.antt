use Rattle.std.proofs.Common.{◌≡◌, ◌<◌, ◌≤◌, length, sym, ap, ◌∙◌, arith}
use Rattle.std.specs.Prelude.{Some, slice_get}
use Rattle.std.proofs.lemmas.Option.{slice_get-get_or}
use Rattle.live_driver.specs.Clients.{HasCallsOf}
use Rattle.live_driver.proofs.FirstCalls.{holds_more, holds_of_all}
use Rattle.live_driver.proofs.first_calls.check_each.Goals as goal

pub check_sessions-requires-clause-seal : goal.check_sessions-requires-clause-seal
check_sessions-requires-clause-seal g c κs within =
    let items = c.args.seals.now.items in
    let inside : c.loop-j.j < length items = omega (arith, c.loop-j-test.true, c.len-j-end.ensures, c.args.seals.now.ok.0) in
    c.requires.seals c.loop-j.j c.index.result.now (slice_get-get_or items c.loop-j.j c.index.result.now inside ∙ ap Some (sym c.index.ensures))

pub loop-j-preserved : goal.loop-j-preserved
loop-j-preserved g c =
    let items = c.args.seals.now.items in
    let inside : c.loop-j.j < length items = omega (arith, c.loop-j-test.true, c.len-j-end.ensures, c.args.seals.now.ok.0) in
    let here = slice_get-get_or items c.loop-j.j c.index.result.now inside ∙ ap Some (sym c.index.ensures) in
    holds_more (λ x. HasCallsOf c.args.run.now.input.now c.args.sessions.now.items x.history) items c.loop-j.j c.index.result.now here
    c.in_ok-check_sessions.ensures.calls c.loop-j.invariant

pub returns-clause-calls : goal.returns-clause-calls
returns-clause-calls g c =
    let items = c.args.seals.now.items in
    let past : length items ≤ c.loop-j.j = omega (arith, c.loop-j-test.false, c.len-j-end.ensures, c.args.seals.now.ok.0) in
    holds_of_all (λ x. HasCallsOf c.args.run.now.input.now c.args.sessions.now.items x.history) items c.loop-j.j past c.loop-j.invariant
