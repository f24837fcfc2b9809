use Rattle.std.proofs.Common.{◌≡◌, ◌∙◌, subst, sym}
use Rattle.live_script.specs.declared.steps_taken.StepsTaken.TheVariants.{Fine, Refused}
use Rattle.live_script.specs.ScriptForm.{parts_form}
use Rattle.live_script.specs.Steps.StepsTaken.{AreTaken}
use Rattle.live_script.proofs.PassedScripts.{all_wanted, few_for, no_steps, some_steps, these_refused, these_steps}
use Rattle.live_script.proofs.StepLists.{all_taken, kept_few}
use Rattle.live_script.proofs.script_steps.read_steps.Goals as goal

pub returns-in-Fine-clause-few : goal.returns-in-Fine-clause-few
returns-in-Fine-clause-few g c = λ k.
    let read = rw c.in-Ok-true.field-0-test at c.in-Ok-true.ensures.read in
    let taken = some_steps g.F.StepForms.call_form g.F.StepForms.return_form g.F.StepForms.is_call c.args.text.now read.0 read.1 c.in-Steps.field-0 c.in-Steps.taken (rw c.in-Steps.is at read.2) in
    let is : c.in-Steps.taken ≡ Fine c.in-Fine.steps c.in-Fine.field-1 = sym c.in-Steps.taken-is ∙ c.in-Fine.is in
    let are = subst (λ t. AreTaken g.F.StepForms.call_form g.F.StepForms.return_form g.F.StepForms.is_call c.in-Steps.field-0 t taken.0) is taken.1 in
    let steps = all_taken g.F.StepForms.call_form g.F.StepForms.return_form g.F.StepForms.is_call c.in-Steps.field-0 taken.0 c.in-Fine.steps.items c.in-Fine.field-1 are in
    few_for k c.in-Steps.field-0 c.in-Fine.steps.items (kept_few c.in-Steps.field-0 steps.0 c.in-Fine.steps.items steps.3 steps.2)

pub returns-in-Fine-clause-read : goal.returns-in-Fine-clause-read
returns-in-Fine-clause-read g c = λ p json.
    let read = rw c.in-Ok-true.field-0-test at c.in-Ok-true.ensures.read in
    let taken = these_steps g.F.StepForms.call_form g.F.StepForms.return_form g.F.StepForms.is_call c.args.text.now read.0 read.1 p json c.in-Steps.field-0 c.in-Steps.taken (rw c.in-Steps.is at read.2) in
    let is : c.in-Steps.taken ≡ Fine c.in-Fine.steps c.in-Fine.field-1 = sym c.in-Steps.taken-is ∙ c.in-Fine.is in
    all_taken g.F.StepForms.call_form g.F.StepForms.return_form g.F.StepForms.is_call p.sessions p.steps c.in-Fine.steps.items c.in-Fine.field-1 (subst (λ t. AreTaken g.F.StepForms.call_form g.F.StepForms.return_form g.F.StepForms.is_call p.sessions t p.steps) is taken)

pub returns-in-Refused-clause-read : goal.returns-in-Refused-clause-read
returns-in-Refused-clause-read g c = λ p json.
    let read = rw c.in-Ok-true.field-0-test at c.in-Ok-true.ensures.read in
    let taken = these_steps g.F.StepForms.call_form g.F.StepForms.return_form g.F.StepForms.is_call c.args.text.now read.0 read.1 p json c.in-Steps.field-0 c.in-Steps.taken (rw c.in-Steps.is at read.2) in
    let is : c.in-Steps.taken ≡ Refused c.in-Refused.error = sym c.in-Steps.taken-is ∙ c.in-Refused.is in
    these_refused g.F.StepForms.call_form g.F.StepForms.return_form g.F.StepForms.is_call c.args.text.now read.0 read.1 p json c.in-Refused.error (subst (λ t. AreTaken g.F.StepForms.call_form g.F.StepForms.return_form g.F.StepForms.is_call p.sessions t p.steps) is taken)

pub returns-in-Ok-false-clause-read : goal.returns-in-Ok-false-clause-read
returns-in-Ok-false-clause-read g c = λ p json.
    let read = rw c.in-Ok-false.field-0-test at c.in-Ok-false.ensures.read in
    absurd (all_wanted g.F.StepForms.call_form g.F.StepForms.return_form g.F.StepForms.is_call c.args.text.now read.0 read.1 p json read.2)

pub returns-in_default-clause-read : goal.returns-in_default-clause-read
returns-in_default-clause-read g c = λ p json.
    let read = rw c.in-Ok-true.field-0-test at c.in-Ok-true.ensures.read in
    absurd (no_steps g.F.StepForms.call_form g.F.StepForms.return_form g.F.StepForms.is_call c.args.text.now read.0 read.1 p json c.gather_text.new.gathered.passed c.in_default.not-Steps read.2)

pub returns-in-Err-NotJson-clause-read : goal.returns-in-Err-NotJson-clause-read
returns-in-Err-NotJson-clause-read g c = λ p json. absurd ((rw c.in-Err-NotJson.field-0-is at c.in-Err-NotJson.ensures.refused) (parts_form p) json)
