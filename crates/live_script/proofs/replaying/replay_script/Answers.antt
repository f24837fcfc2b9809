use Rattle.live_script.proofs.replaying.replay_script.Goals as goal

pub returns-in-Memory : goal.returns-in-Memory
returns-in-Memory c = rw c.in-Memory.is c.replay_of-in-Memory.ensures
