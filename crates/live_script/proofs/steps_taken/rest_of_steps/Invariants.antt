use Rattle.std.proofs.Common.{length}
use Rattle.live_script.specs.Steps.StepsTaken.{AreTaken}
use Rattle.json_tokens.proofs.Gathering.{IsGathering}
use Rattle.live_script.proofs.steps_taken.rest_of_steps.Given as goal

-- the steps of the elements so far were taken
abbrev pub invariant-steps : goal.invariant-steps
invariant-steps g l = IsGathering (AreTaken g.F.StepForms.call_form g.F.StepForms.return_form g.F.StepForms.is_call l.k) (λ ds. ⊥) l.depth l.initial.reader l.reader l.taken

abbrev pub decreases-steps : goal.decreases-steps
decreases-steps g l = length l.reader
