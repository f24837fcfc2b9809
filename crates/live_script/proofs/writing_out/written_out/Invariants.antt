use Rattle.std.proofs.Common.{◌≡◌}
use Rattle.live_script.specs.StepForm.{written_out}
use Rattle.live_script.proofs.writing_out.written_out.Given as goal

-- the steps that those before represent
abbrev pub invariant-loop-step : goal.invariant-loop-step
invariant-loop-step g l = l.steps.items ≡ written_out l.k l.yielded
