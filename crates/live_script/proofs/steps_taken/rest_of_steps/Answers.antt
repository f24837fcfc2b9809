use Rattle.std.proofs.Common.{◌≡◌, None, arith, refl, true}
use Rattle.json.specs.Json.{after_end_array}
use Rattle.json_tokens.proofs.Elements.{element_refused}
use Rattle.json_tokens.proofs.Gathering.{gathering_begun, gathering_more, gathering_over}
use Rattle.live_script.specs.Steps.StepsTaken.{AreTaken}
use Rattle.live_script.proofs.StepLists.{none_taken}
use Rattle.live_script.proofs.steps_taken.rest_of_steps.Goals as goal

pub steps-init : goal.steps-init
steps-init g c =
    gathering_begun (AreTaken g.F.StepForms.call_form g.F.StepForms.return_form g.F.StepForms.is_call c.args.k) (λ ds. ⊥) c.args.depth c.args.reader.now _ (none_taken g.F.StepForms.call_form g.F.StepForms.return_form g.F.StepForms.is_call c.args.k c.new.result.items c.new.ensures.items)

pub returns-in-Err-clause-refused : goal.returns-in-Err-clause-refused
returns-in-Err-clause-refused g c =
    let now = c.steps.reader in
    let inv = c.steps.invariant in
    let going : (after_end_array now ≡ None) × (c.take_end_array.new.self ≡ now) = grind arith in
    element_refused c.args.depth c.args.reader.now now inv.elements inv.so_far going.0 c.in-Err.error (rw (← going.1) c.in-Err.ensures.refused)

pub steps-preserved : goal.steps-preserved
steps-preserved g c =
    let now = c.steps.reader in
    let going : (after_end_array now ≡ None) × (c.take_end_array.new.self ≡ now) = grind arith in
    let done = c.in-Ok.ensures in
    gathering_more (AreTaken g.F.StepForms.call_form g.F.StepForms.return_form g.F.StepForms.is_call c.args.k) (λ ds. ⊥) c.args.depth c.args.reader.now now c.steps.taken c.steps.invariant _ true
    c.next_step.new.reader refl going.0 (done.read.0, rw (← going.1) done.read.1, λ ds so_far. c.in_ok-taken-in-Ok.ensures c.args.k ds done.read.0 so_far done.read.2)
    (rw (← going.1) done.shorter)

pub returns-clause-read : goal.returns-clause-read
returns-clause-read g c =
    gathering_over (AreTaken g.F.StepForms.call_form g.F.StepForms.return_form g.F.StepForms.is_call c.args.k) (λ ds. ⊥) c.args.depth c.args.reader.now c.steps.reader c.steps.taken c.steps.invariant c.take_end_array.new.self (grind arith)
