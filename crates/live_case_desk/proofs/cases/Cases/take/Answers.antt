use Rattle.live_case_desk.proofs.TrueCases.{piece_of_ticket}
use Rattle.live_case_desk.proofs.cases.Cases.take.Goals as goal

pub returns-clause-piece : goal.returns-clause-piece
returns-clause-piece g c =
    piece_of_ticket c.next_piece.new.self c.in_ok-piece.piece.number c.in_ok-piece.piece.op c.ticket_of.result.file c.in_ok-piece.ensures.filed
    c.in_ok-piece.ensures.piece c.ticket_of.ensures.file
