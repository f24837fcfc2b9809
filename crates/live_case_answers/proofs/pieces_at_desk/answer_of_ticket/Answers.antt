use Rattle.live_case_answers.proofs.DeskLaws.{unknown-said, yes-said}
use Rattle.live_case_answers.proofs.pieces_at_desk.answer_of_ticket.Goals as goal

pub returns-in-Yes-clause-said : goal.returns-in-Yes-clause-said
returns-in-Yes-clause-said g c = yes-said g.O.SeqObject.answer g.O.Refutable.passes c.args.ticket.now.file c.in-Yes.ensures.truth

pub returns-in-Unknown-clause-said : goal.returns-in-Unknown-clause-said
returns-in-Unknown-clause-said g c =
    unknown-said g.O.SeqObject.answer g.O.Refutable.passes c.args.ticket.now.file c.in-Unknown.place c.in-Unknown.ensures.truth
