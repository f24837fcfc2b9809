use Rattle.live_case_board.specs.Boards.{with_verdict}
use Rattle.live_case_board.proofs.InPlace.{row_in_place, changed_in_place}
use Rattle.live_case_board.proofs.board.Board.fill.Goals as goal

pub fill-requires : goal.fill-requires
fill-requires g c =
    row_in_place c.self.inside.cases.items c.args.self.now c.args.number c.index_mut.result.now c.self.view_is c.index_mut.ensures.value c.args.op
    c.requires.filed c.requires.inside

pub returns : goal.returns
returns g c =
    changed_in_place c.self.inside.cases.items c.args.self.now c.args.number c.index_mut.result.now c.self.view_is c.index_mut.ensures.value
    (λ s. with_verdict s c.args.op c.args.outcome) c.fill.new.self c.fill.ensures
