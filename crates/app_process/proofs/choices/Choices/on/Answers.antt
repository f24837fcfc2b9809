-- Each choice is that of its form.
use Rattle.app_process.proofs.choices.Choices.on.Goals as goal

pub returns-in-Unseen : goal.returns-in-Unseen
returns-in-Unseen c = rw c.in-Unseen.is c.requires.unseen

pub returns-in-Log : goal.returns-in-Log
returns-in-Log c = rw c.in-Log.is c.requires.log

pub returns-in-Memory : goal.returns-in-Memory
returns-in-Memory c = rw c.in-Memory.is c.requires.memory

pub returns-in-Other : goal.returns-in-Other
returns-in-Other c = rw c.in-Other.is c.requires.other
