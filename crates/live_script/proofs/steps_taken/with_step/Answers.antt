use Rattle.std.proofs.Common.{arith}
use Rattle.live_script.proofs.StepLists.{bad_step, still_refused}
use Rattle.live_script.proofs.steps_taken.with_step.Goals as goal

pub returns-in-Refused : goal.returns-in-Refused
returns-in-Refused g c = λ k ds d so_far read. still_refused g.F.StepForms.call_form g.F.StepForms.return_form g.F.StepForms.is_call k ds d c.in-Refused.error (rw c.in-Refused.is at so_far)

pub returns-in-None : goal.returns-in-None
returns-in-None g c = λ k ds d so_far read.
    bad_step g.F.StepForms.call_form g.F.StepForms.return_form g.F.StepForms.is_call k ds d c.in-Fine.steps.items c.in-Fine.room (rw c.in-Fine.is at so_far)
    (rw c.in-None.is at read) c.len-place.result (let e = c.len-place.ensures in omega (arith, e))
