use Rattle.std.proofs.Common.{take}
use Rattle.live_simulation.proofs.Running.{HasRun}
use Rattle.live_simulation.proofs.world.World.run.Given as goal

-- the replies so far are those of a run of the first steps, and the world is behind them
abbrev pub invariant-loop-i : goal.invariant-loop-i
invariant-loop-i g l = HasRun g.O.SeqObject.matches g.O.SeqObject.answer g.O.Refutable.passes l.start l.k (take l.i l.steps) l.replies.items l.world.recording l.world.cases
