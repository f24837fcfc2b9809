use Rattle.live_case_answers.proofs.pieces_at_desk.answer_of_file.Given as goal

abbrev pub ghosts-answer_on : goal.ghosts-answer_on
ghosts-answer_on g a = record { shelf = a.shelf }
