-- An answer that goes to a file leaves the output as it is.
use Rattle.std.specs.Option.{option_copied}
use Rattle.app_process.specs.Faults.{ReadingFails, WritingFails}
use Rattle.app_process.proofs.AskedLaws.{to_file}
use Rattle.app_process.proofs.asked_input.status_by.Goals as goal

pub returns-then-asked : goal.returns-then-asked
returns-then-asked g c =
    to_file (ReadingFails 0 g.R.Source.called) (WritingFails g.W.Sink.called) (option_copied c.args.given.now.place.label) c.args.given.now.place.is_terminal c.args.given.now.terminals.output c.args.asked.now
    (g.R.Source.remaining c.args.reader) (g.W.Sink.contents c.args.writer) _ _ _ c.if-asked.true c.status_with_file-status.ensures
