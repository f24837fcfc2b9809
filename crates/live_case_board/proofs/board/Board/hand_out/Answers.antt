use Rattle.live_case_board.specs.Boards.{handed_out}
use Rattle.live_case_board.proofs.InPlace.{row_in_place, changed_in_place}
use Rattle.live_case_board.proofs.board.Board.hand_out.Goals as goal

pub hand_out-requires : goal.hand_out-requires
hand_out-requires g c =
    row_in_place c.self.inside.cases.items c.args.self.now c.args.number c.index_mut.result.now c.self.view_is c.index_mut.ensures.value c.args.op
    c.requires.filed c.requires.inside

pub returns : goal.returns
returns g c =
    changed_in_place c.self.inside.cases.items c.args.self.now c.args.number c.index_mut.result.now c.self.view_is c.index_mut.ensures.value
    (λ s. handed_out s c.args.op) c.hand_out.new.self c.hand_out.ensures
