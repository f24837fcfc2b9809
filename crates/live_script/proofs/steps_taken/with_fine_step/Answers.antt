use Rattle.std.proofs.Common.{arith, refl}
use Rattle.live_script.proofs.StepLists.{step_taken, too_many_steps}
use Rattle.live_script.proofs.steps_taken.with_fine_step.Goals as goal

pub returns-then-more-room : goal.returns-then-more-room
returns-then-more-room g c = λ k ds d so_far read.
    too_many_steps g.F.StepForms.call_form g.F.StepForms.return_form g.F.StepForms.is_call k ds d c.args.steps.items c.args.room so_far
    c.args.step read c.count-more.result (c.count-more.ensures k) c.if-more-room.true

pub returns : goal.returns
returns g c = λ k ds d so_far read.
    rw c.in_ok-push.ensures.items (step_taken g.F.StepForms.call_form g.F.StepForms.return_form g.F.StepForms.is_call k ds d c.args.steps.items c.args.room so_far
    c.args.step read c.count-more.result (c.count-more.ensures k) (let fits = c.if-more-room.false in omega (arith, fits)) _ refl)
