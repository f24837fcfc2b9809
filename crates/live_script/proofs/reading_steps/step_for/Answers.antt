use Rattle.std.proofs.Common.{◌≡◌, Bool, true, false, sym, ◌∙◌}
use Rattle.live_script.proofs.StepArguments.{no_counts, these_counts}
use Rattle.live_script.proofs.reading_steps.step_for.Goals as goal

pub returns-then-has_counts : goal.returns-then-has_counts
returns-then-has_counts g c = λ d is. these_counts g.F.StepForms.call_form g.F.StepForms.return_form g.F.StepForms.is_call d c.args.k c.args.step is (c.has_counts.ensures.0 c.if-has_counts.true)

pub returns-else-has_counts : goal.returns-else-has_counts
returns-else-has_counts g c = λ d is.
    no_counts g.F.StepForms.call_form g.F.StepForms.return_form g.F.StepForms.is_call d c.args.k c.args.step is
    (λ has. let e : ◌≡◌ {A = Bool} true false = sym (c.has_counts.ensures.1 has) ∙ c.if-has_counts.false in absurd cc)
