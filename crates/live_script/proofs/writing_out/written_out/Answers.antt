use Rattle.std.proofs.Common.{◌++◌, [], ap, ◌∙◌}
use Rattle.std.proofs.lemmas.List.{flat_map_more}
use Rattle.live_script.specs.StepForm.{steps_of}
use Rattle.live_script.proofs.writing_out.written_out.Goals as goal

pub loop-step-preserved : goal.loop-step-preserved
loop-step-preserved g c =
    let k = c.args.k in
    let step = c.in-Some.step in
    c.in_ok-push_steps.ensures
    ∙ (ap (λ steps. steps ++ steps_of k step) c.loop-step.invariant ∙ flat_map_more (steps_of k) [] c.loop-step.yielded step)
