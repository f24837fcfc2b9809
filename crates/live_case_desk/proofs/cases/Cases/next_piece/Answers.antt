use Rattle.live_case_desk.proofs.TrueCases.{taking_leaves, taken_filed, taken_pieces}
use Rattle.live_case_desk.proofs.cases.Cases.next_piece.Goals as goal

pub invariant_of-self : goal.invariant_of-self
invariant_of-self g c =
    taking_leaves g.O.SeqObject.answer g.O.Refutable.passes c.self.inside.board c.take.new.self c.take.result c.self.invariant c.take.ensures.none
    c.take.ensures.due c.take.ensures.taken

pub returns-clause-filed : goal.returns-clause-filed
returns-clause-filed g c =
    taken_filed g.O.SeqObject.answer g.O.Refutable.passes c.self.inside.board c.take.new.self c.take.result c.self.invariant c.take.ensures.due
    c.take.ensures.taken

pub returns-clause-piece : goal.returns-clause-piece
returns-clause-piece g c =
    taken_pieces g.O.SeqObject.answer g.O.Refutable.passes c.self.inside.board c.take.new.self c.take.result c.self.invariant c.take.ensures.due
    c.take.ensures.taken
