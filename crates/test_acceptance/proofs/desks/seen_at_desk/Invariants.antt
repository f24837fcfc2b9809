use Rattle.test_acceptance.proofs.desks.seen_at_desk.Given as goal

abbrev pub ghosts-seen_on : goal.ghosts-seen_on
ghosts-seen_on g a = record { shelf = a.shelf }
