-- Each call of the writer that makes room is one of the writer below it.
use Rattle.std.proofs.Common.{ap, sym}
use Rattle.std.specs.Option.{option_copied}
use Rattle.app_process.specs.Faults.{ReadingFails, WritingFails}
use Rattle.app_process.proofs.FaultLaws.{by_writer, inner_writing_fails}
use Rattle.app_process.proofs.asked_input.answer_plainly.Goals as goal

pub returns : goal.returns
returns g c =
    by_writer (ReadingFails 0 g.R.Source.called) _ (WritingFails g.W.Sink.called) (option_copied c.args.given.now.place.label)
    c.args.given.now.place.is_terminal c.args.asked.now.task c.args.asked.now.manner (g.R.Source.remaining c.args.reader) _ _
    (g.W.Sink.contents c.args.writer) (g.W.Sink.contents c.into_inner.result) _ _ _
    (λ fails. inner_writing_fails g.W.Sink.called (λ s. s.to) fails)
    (ap g.W.Sink.contents c.of-writer.ensures) (sym (ap g.W.Sink.contents c.into_inner.ensures)) c.answer_by-writer.ensures
