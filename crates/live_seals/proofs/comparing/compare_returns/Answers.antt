use Rattle.live_seals.proofs.comparing.compare_returns.Goals as goal

pub compare_return-requires-clause-shared : goal.compare_return-requires-clause-shared
compare_return-requires-clause-shared g c = c.requires.shared c.loop-i.i c.loop-i-test.true
