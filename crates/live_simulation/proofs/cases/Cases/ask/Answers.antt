use Rattle.live_simulation.proofs.AskSteps.{ask_done, ask_none}
use Rattle.live_simulation.proofs.cases.Cases.ask.Goals as goal

pub returns-in-Ok : goal.returns-in-Ok
returns-in-Ok g c = ask_done g.O.SeqObject.answer g.O.Refutable.passes c.args.self.now c.args.c c.in-Ok.answer c.in-Ok.ensures.accepted c.in-Ok.ensures.standing

pub returns-in-Err : goal.returns-in-Err
returns-in-Err g c = ask_none g.O.SeqObject.answer g.O.Refutable.passes c.args.self.now c.args.c c.in-Err._error c.in-Err.ensures.refused
