use Rattle.log_choices.specs.ChoiceTables.{choice_in}
use Rattle.log_choices.proofs.CheckedChoices.{AreExplainedBelow}
use Rattle.log_choices.proofs.checked_choice.explains_all.Given as goal

-- the calls so far
abbrev pub invariant-loop-number : goal.invariant-loop-number
invariant-loop-number l = AreExplainedBelow l.timed.log.now l.timed.in_time (choice_in l.table) l.number
