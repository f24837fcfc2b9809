use Rattle.std.proofs.Common.{sym}
use Rattle.live_script.proofs.StepArguments.{no_step_there, not_all_there, step_there}
use Rattle.live_script.proofs.reading_steps.next_step.Goals as goal

pub returns-in-Ok-false-clause-read : goal.returns-in-Ok-false-clause-read
returns-in-Ok-false-clause-read g c =
    let read = rw c.in-Ok-false.field-0-test at c.in-Ok-false.ensures.read in
    (read.0, read.1, no_step_there g.F.StepForms.call_form g.F.StepForms.return_form g.F.StepForms.is_call read.0 c.args.k c.next_list.new.gathered.parts read.2)

pub returns-in-None-clause-read : goal.returns-in-None-clause-read
returns-in-None-clause-read g c =
    let read = rw c.in-Ok-true.field-0-test at c.in-Ok-true.ensures.read in
    (read.0, read.1, not_all_there g.F.StepForms.call_form g.F.StepForms.return_form g.F.StepForms.is_call read.0 c.args.k c.next_list.new.gathered.parts read.2 (sym (rw c.in-None.is at c.whole.ensures)))

pub returns-in-Some-clause-read : goal.returns-in-Some-clause-read
returns-in-Some-clause-read g c =
    let read = rw c.in-Ok-true.field-0-test at c.in-Ok-true.ensures.read in
    (read.0, read.1, c.step_for.ensures read.0 (step_there g.F.StepForms.call_form g.F.StepForms.return_form g.F.StepForms.is_call read.0 c.next_list.new.gathered.parts c.in-Some.step read.2 (sym (rw c.in-Some.is at c.whole.ensures))))
