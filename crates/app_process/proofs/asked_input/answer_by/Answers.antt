-- Each call of the reader that counts is one of the reader below it.
use Rattle.std.proofs.Common.{ap}
use Rattle.std.specs.Option.{option_copied}
use Rattle.app_process.specs.Faults.{WritingFails}
use Rattle.app_process.specs.Steps.Readers.{PassesRead}
use Rattle.app_process.proofs.FaultLaws.{by_reader, inner_fails}
use Rattle.app_process.proofs.asked_input.answer_by.Goals as goal

pub returns : goal.returns
returns g c =
    by_reader _ _ (WritingFails g.W.Sink.called) (option_copied c.args.given.now.place.label) c.args.given.now.place.is_terminal c.args.asked.now.task
    c.args.asked.now.manner _ (g.R.Source.remaining c.args.reader) _ _ _ _ _
    (λ fails. inner_fails g.R.Source.called (λ s. s.reader) 0
    (inner_fails (λ a o b. PassesRead g.R.Source.called a.reader o b.reader) (λ s. s.reader) 0 fails))
    (ap g.R.Source.remaining c.counted_at-reader.ensures) c.answer_from.ensures
