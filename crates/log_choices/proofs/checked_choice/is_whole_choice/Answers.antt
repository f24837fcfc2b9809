use Rattle.log_choices.specs.ChoiceTables.{choice_in}
use Rattle.log_choices.proofs.CheckedChoices.{explained-choice, explained-whole}
use Rattle.log_choices.proofs.checked_choice.is_whole_choice.Goals as goal

pub returns-clause-choice : goal.returns-clause-choice
returns-clause-choice c = λ yes. explained-choice c.args.log.now c.args.in_time (choice_in c.args.table.now) (c.explains_all.ensures yes)

pub returns-clause-whole : goal.returns-clause-whole
returns-clause-whole c = λ yes. explained-whole c.args.log.now c.args.in_time (choice_in c.args.table.now) (c.explains_all.ensures yes)
