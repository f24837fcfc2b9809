-- Nothing is promised of a writer that dresses lines.
use Rattle.std.specs.Prelude.{⊤, refl}
use Rattle.std.proofs.Common.{None}
use Rattle.std.specs.Option.{option_copied}
use Rattle.app_process.specs.Faults.{ReadingFails}
use Rattle.app_process.proofs.FaultLaws.{by_writer}
use Rattle.app_process.proofs.asked_input.answer_dressed.Goals as goal

pub returns : goal.returns
returns g c =
    by_writer (ReadingFails 0 g.R.Source.called) _ ⊤ (option_copied c.args.given.now.place.label) c.args.given.now.place.is_terminal
    c.args.asked.now.task c.args.asked.now.manner (g.R.Source.remaining c.args.reader) None None None None _ _ _ (λ fails. tt) refl refl c.answer_by-writer.ensures
