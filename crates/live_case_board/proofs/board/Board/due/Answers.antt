use Rattle.std.proofs.Common.{arith, ap, length}
use Rattle.std.proofs.lemmas.Option.{slice_get_within}
use Rattle.live_case_board.proofs.InPlace.{due_in_place, idle_in_place}
use Rattle.live_case_board.proofs.board.Board.due.Goals as goal

pub loop-number-preserved : goal.loop-number-preserved
loop-number-preserved g c =
    idle_in_place c.self.inside.cases.items c.args.self.now c.loop-number.number c.index.result.now c.self.view_is c.index.ensures
    c.in_default.ensures c.loop-number.invariant

pub returns-in-Some : goal.returns-in-Some
returns-in-Some g c =
    let all = ap length c.self.view_is in
    let end = c.len-number-end.ensures in
    let below = c.loop-number-test.true in
    due_in_place c.self.inside.cases.items c.args.self.now c.loop-number.number c.index.result.now c.self.view_is c.index.ensures
    c.in-Some.op (omega arith) c.in-Some.ensures c.loop-number.invariant

pub returns : goal.returns
returns g c = λ n s at.
    let filed = slice_get_within c.args.self.now n s at in
    let all = ap length c.self.view_is in
    let end = c.len-number-end.ensures in
    let past = c.loop-number-test.false in
    c.loop-number.invariant n (omega arith) s at
