use Rattle.cert_check.proofs.past_replay.PastReplay.explains.Goals as goal

pub keep-requires-clause-good : goal.keep-requires-clause-good
keep-requires-clause-good g c = λ _ _. (c.args.v.now, c.requires.vector, c.requires.schedule)

pub replays-requires-clause-good : goal.replays-requires-clause-good
replays-requires-clause-good g c = λ _ _. (c.args.v.now, c.requires.vector, c.requires.schedule)
