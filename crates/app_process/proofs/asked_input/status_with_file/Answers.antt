-- There is no answer for the file, or it was written there or not.
use Rattle.std.specs.Option.{option_copied}
use Rattle.app_process.specs.Faults.{ReadingFails}
use Rattle.app_process.proofs.AskedLaws.{is_saved, not_saved}
use Rattle.app_process.proofs.asked_input.status_with_file.Goals as goal

pub returns-then-status-ne0 : goal.returns-then-status-ne0
returns-then-status-ne0 g c =
    not_saved (ReadingFails 0 g.R.Source.called) (option_copied c.args.given.now.place.label) c.args.given.now.place.is_terminal
    c.args.given.now.terminals.output c.args.asked.now (g.R.Source.remaining c.args.reader) _ _ _ _ c.if-status-ne0.true c.answer_in_memory-answer.ensures

pub returns : goal.returns
returns g c =
    is_saved (ReadingFails 0 g.R.Source.called) (option_copied c.args.given.now.place.label) c.args.given.now.place.is_terminal
    c.args.given.now.terminals.output c.args.asked.now (g.R.Source.remaining c.args.reader) _ _ _ _ _ _ c.if-status-ne0.false
    c.answer_in_memory-answer.ensures c.status_saved.ensures
