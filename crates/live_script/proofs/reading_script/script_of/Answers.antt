use Rattle.live_script.proofs.ScriptsRead.{steps_refused}
use Rattle.live_script.proofs.reading_script.script_of.Goals as goal

pub returns-in-Ok : goal.returns-in-Ok
returns-in-Ok g c = λ p json sessions after. c.script_with.ensures p sessions (rw sessions at (c.in-Ok.ensures.read p json)) after

pub returns-in-Err : goal.returns-in-Err
returns-in-Err g c = λ p json sessions after.
    steps_refused g.O.Named.call_form g.O.Named.return_form g.O.Named.is_call g.O.Named.start_form g.O.SeqObject.is_start g.O.Named.has_form c.args.sessions p.steps p.rest c.in-Err.error
    (rw sessions at (c.in-Err.ensures.read p json))
