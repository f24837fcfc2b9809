use Rattle.log_choices.specs.ChoiceTables.{choice_in}
use Rattle.log_choices.proofs.CheckedChoices.{unnamed-explained}
use Rattle.log_choices.proofs.checked_choice.explains.Goals as goal

pub returns-else-has_key : goal.returns-else-has_key
returns-else-has_key c =
    λ _ a at. unnamed-explained c.args.timed.now.log.now c.args.timed.now.in_time (choice_in c.args.table.now) c.args.deletes.now c.in-Some.read
    a.place c.requires.deletes c.in-Some.ensures.some.0 (c.in-Some.ensures.some.1 a at) (c.has_key.ensures c.if-has_key.false)
