use Rattle.std.proofs.Common.{◌≡◌, ◌<◌, ◌≤◌, length, sym, ap, ◌∙◌, arith}
use Rattle.std.specs.Prelude.{Some, slice_get}
use Rattle.std.proofs.lemmas.Option.{slice_get-get_or}
use Rattle.live_driver.specs.Clients.{HasFirstCalls}
use Rattle.live_driver.proofs.FirstCalls.{holds_more, holds_of_all}
use Rattle.live_driver.proofs.first_calls.check_sessions.Goals as goal

pub check_session-requires-clause-recorded : goal.check_session-requires-clause-recorded
check_session-requires-clause-recorded g c κs within =
    let items = c.args.sessions.now.items in
    let inside : c.loop-j.j < length items = omega (arith, c.loop-j-test.true, c.len-j-end.ensures, c.args.sessions.now.ok.0) in
    c.requires.recorded c.loop-j.j c.index.result.now (slice_get-get_or items c.loop-j.j c.index.result.now inside ∙ ap Some (sym c.index.ensures))

pub loop-j-preserved : goal.loop-j-preserved
loop-j-preserved g c =
    let items = c.args.sessions.now.items in
    let inside : c.loop-j.j < length items = omega (arith, c.loop-j-test.true, c.len-j-end.ensures, c.args.sessions.now.ok.0) in
    let here = slice_get-get_or items c.loop-j.j c.index.result.now inside ∙ ap Some (sym c.index.ensures) in
    holds_more (λ own. HasFirstCalls c.args.run.now.input.now c.args.sealed.now.history own.lane) items c.loop-j.j c.index.result.now here
    c.in_ok-check_session.ensures.calls c.loop-j.invariant

pub returns-clause-calls : goal.returns-clause-calls
returns-clause-calls g c =
    let items = c.args.sessions.now.items in
    let past : length items ≤ c.loop-j.j = omega (arith, c.loop-j-test.false, c.len-j-end.ensures, c.args.sessions.now.ok.0) in
    holds_of_all (λ own. HasFirstCalls c.args.run.now.input.now c.args.sealed.now.history own.lane) items c.loop-j.j past c.loop-j.invariant
