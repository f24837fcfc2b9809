use Rattle.std.proofs.Common.{◌≡◌, ◌++◌, replicate}
use Rattle.live_simulation.specs.declared.step.StepOf.TheVariants.{Look}
use Rattle.live_script.proofs.writing_out.push_looks.Given as goal

-- so many looks stand behind the steps that were there
abbrev pub invariant-loop : goal.invariant-loop
invariant-loop g l = l.steps.items ≡ l.fn.steps.items ++ replicate l.counter (Look l.sealer)
