-- An answer goes to the output as it is, or dressed.
use Rattle.std.proofs.Common.{sym, ◌∙◌}
use Rattle.app_process.specs.Faults.{ReadingFails, WritingFails}
use Rattle.app_process.proofs.AskedLaws.{output_as_it_is, output_dressed}
use Rattle.app_process.proofs.asked_input.status_with_output.Goals as goal

pub returns-then-is_plain : goal.returns-then-is_plain
returns-then-is_plain g c =
    output_as_it_is (ReadingFails 0 g.R.Source.called) (WritingFails g.W.Sink.called) _ _ _ c.args.asked.now c.is_painted-is_painted.result (g.R.Source.remaining c.args.reader) _ _ _ _ _
    c.is_painted-is_painted.ensures (sym c.is_plain.ensures ∙ c.if-is_plain.true) c.answer_plainly.ensures

pub returns-else-is_plain : goal.returns-else-is_plain
returns-else-is_plain g c =
    output_dressed (ReadingFails 0 g.R.Source.called) (WritingFails g.W.Sink.called) _ _ _ c.args.asked.now c.is_painted-is_painted.result (g.R.Source.remaining c.args.reader)
    (g.W.Sink.contents c.args.writer) (g.W.Sink.contents c.answer_dressed.result.0) _ _ _
    c.is_painted-is_painted.ensures (sym c.is_plain.ensures ∙ c.if-is_plain.false) c.answer_dressed.ensures
