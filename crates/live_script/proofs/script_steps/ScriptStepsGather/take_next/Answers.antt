use Rattle.live_script.proofs.PassedScripts.{name_passed, no_sessions, no_steps_list, sessions_passed, steps_passed, still_passed}
use Rattle.live_script.proofs.script_steps.ScriptStepsGather.take_next.Goals as goal

pub returns-in_ok-pass_value-in-Nothing-clause-taken : goal.returns-in_ok-pass_value-in-Nothing-clause-taken
returns-in_ok-pass_value-in-Nothing-clause-taken g c =
    let read = c.in_ok-pass_value-in-Nothing.ensures.passed in
    (read.0, read.1, λ ds so_far. rw c.pass.ensures (name_passed g.F.StepForms.call_form g.F.StepForms.return_form g.F.StepForms.is_call ds read.0 (rw c.in-Nothing.is at so_far)))

pub returns-in-Some-clause-taken : goal.returns-in-Some-clause-taken
returns-in-Some-clause-taken g c =
    let read = rw c.in-Some.is at c.in_ok-sessions-in-Name.ensures.read in
    (read.0, read.1, λ ds so_far. rw c.pass-in-Name.ensures (sessions_passed g.F.StepForms.call_form g.F.StepForms.return_form g.F.StepForms.is_call ds read.0 (rw c.in-Name.is at so_far) c.in-Some.sessions read.2))

pub returns-in_default-clause-taken : goal.returns-in_default-clause-taken
returns-in_default-clause-taken g c =
    let read = rw c.in_default.is at c.in_ok-sessions-in-Name.ensures.read in
    (read.0, read.1, λ ds so_far. no_sessions g.F.StepForms.call_form g.F.StepForms.return_form g.F.StepForms.is_call ds read.0 (rw c.in-Name.is at so_far) read.2)

pub returns-in-Some-2-clause-taken : goal.returns-in-Some-2-clause-taken
returns-in-Some-2-clause-taken g c =
    let read = rw c.in-Some-2.is at c.in_ok-steps-in-Sessions.ensures.read in
    (read.0, read.1, λ ds so_far. rw c.pass-in-Some-2.ensures (steps_passed g.F.StepForms.call_form g.F.StepForms.return_form g.F.StepForms.is_call ds read.0 c.in-Sessions.sessions c.in-Some-2.steps (rw c.in-Sessions.is at so_far) read.2))

pub returns-in-None-clause-taken : goal.returns-in-None-clause-taken
returns-in-None-clause-taken g c =
    let read = rw c.in-None.is at c.in_ok-steps-in-Sessions.ensures.read in
    (read.0, read.1, λ ds so_far. no_steps_list g.F.StepForms.call_form g.F.StepForms.return_form g.F.StepForms.is_call ds read.0 c.in-Sessions.sessions (rw c.in-Sessions.is at so_far) read.2)

pub returns-in_ok-pass_value-in-Steps-clause-taken : goal.returns-in_ok-pass_value-in-Steps-clause-taken
returns-in_ok-pass_value-in-Steps-clause-taken g c =
    let read = c.in_ok-pass_value-in-Steps.ensures.passed in
    (read.0, read.1, λ ds so_far. still_passed g.F.StepForms.call_form g.F.StepForms.return_form g.F.StepForms.is_call ds read.0 _ _ c.args.self.now.passed c.in-Steps.is so_far)
