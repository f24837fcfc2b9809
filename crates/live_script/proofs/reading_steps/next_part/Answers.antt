use Rattle.std.proofs.Common.{sym, ◌∙◌}
use Rattle.live_script.proofs.StepArguments.{next_missing, next_taken, none_wanted}
use Rattle.live_script.proofs.reading_steps.next_part.Goals as goal

pub returns-in_default-clause-read : goal.returns-in_default-clause-read
returns-in_default-clause-read g c =
    let read = c.in_ok-pass_value.ensures.passed in
    (read.0, read.1, λ ds so_far. none_wanted g.F.StepForms.call_form g.F.StepForms.return_form g.F.StepForms.is_call read.0 ds c.args.parts.now so_far (sym c.in_default.is ∙ c.wanted.ensures))

pub returns-in-Ok-Some-clause-read : goal.returns-in-Ok-Some-clause-read
returns-in-Ok-Some-clause-read g c =
    let read = rw c.in-Ok-Some.field-0-is at c.in-Ok-Some.ensures.read in (
      read.0,
      read.1,
      λ ds so_far.
          rw c.with_argument.ensures
          (next_taken g.F.StepForms.call_form g.F.StepForms.return_form g.F.StepForms.is_call read.0 ds c.args.parts.now so_far c.in-Some.kind (sym c.in-Some.is ∙ c.wanted.ensures) c.in-Ok-Some.argument read.2),
    )

pub returns-in-Ok-None-clause-read : goal.returns-in-Ok-None-clause-read
returns-in-Ok-None-clause-read g c =
    let read = rw c.in-Ok-None.field-0-is at c.in-Ok-None.ensures.read in
    (read.0, read.1, λ ds so_far. next_missing g.F.StepForms.call_form g.F.StepForms.return_form g.F.StepForms.is_call read.0 ds c.args.parts.now so_far c.in-Some.kind (sym c.in-Some.is ∙ c.wanted.ensures) read.2)
