use Rattle.std.specs.Prelude.{◌<◌, ◌+◌, length}
use Rattle.std.proofs.Common.{arith, sym, subst}
use Rattle.model_history.specs.History.{session}
use Rattle.judge_memory.proofs.Numbers.{one_more}
use Rattle.judge_session_orders.specs.OnItsWay.{ListsSessions}
use Rattle.judge_session_orders.proofs.TurnLaws.{list-push}
use Rattle.judge_session_orders.proofs.turns.list_session.Goals as goal

pub returns-in_ok-push : goal.returns-in_ok-push
returns-in_ok-push c =
    let h = c.args.index.now.history in
    let more = one_more h c.args.session c.requires.exists in
    let start = c.start.ensures.number in
    let end = c.end.ensures.number in
    let test = c.if-start-end.true in
    let some : 0 < length (session h c.args.session) = omega arith in
    subst (ListsSessions h (c.args.session + 1)) (sym c.in_ok-push.ensures.items)
    (list-push h c.args.session c.args.sessions.now.items c.requires.exists some c.requires.before)
