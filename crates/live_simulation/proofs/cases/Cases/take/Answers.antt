use Rattle.live_simulation.proofs.TakeSteps.{take_done}
use Rattle.live_simulation.proofs.cases.Cases.take.Goals as goal

pub returns : goal.returns
returns g c =
    take_done g.O.SeqObject.answer g.O.Refutable.passes c.args.self.now c.next_piece-piece.new.self c.next_piece-piece.result c.next_piece-piece.ensures.none c.next_piece-piece.ensures.idle
    c.next_piece-piece.ensures.due c.next_piece-piece.ensures.taken
