use Rattle.log_choices.proofs.forced_plan.Plan.of.Goals as goal

pub returns : goal.returns
returns c = λ in_time. record { writes = c.in_ok-writes.ensures in_time; deletes = c.in_ok-deletes.ensures }
