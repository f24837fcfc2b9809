use Rattle.log_choices.proofs.forced_plan.Plan.replaced_by.Given as goal

abbrev pub invariant-loop-number : goal.invariant-loop-number
invariant-loop-number l = Unit {0}
