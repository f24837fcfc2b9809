use Rattle.std.proofs.Common.{inl, refl}
use Rattle.json_lines.proofs.ReadCallLaws.{go_on_none}
use Rattle.json_lines.proofs.TakingLaws.{further_none}
use Rattle.json_line_workers.proofs.FiledLaws.{begun-first, first-none}
use Rattle.json_line_workers.proofs.running.answer_lines.Goals as goal

pub returns-in-Err-clause-faulted : goal.returns-in-Err-clause-faulted
returns-in-Err-clause-faulted g c = λ other. first-none (g.C.LineHandler.says c.args.handler.now) (g.R.Source.remaining c.args.reader) (g.W.Sink.contents c.args.writer)

pub returns-in-Err-clause-begun : goal.returns-in-Err-clause-begun
returns-in-Err-clause-begun g c =
    let says = g.C.LineHandler.says c.args.handler.now in
    let input = g.R.Source.remaining c.args.reader in
    let before = g.W.Sink.contents c.args.writer in
    begun-first says input before before (first-none says input before)

pub returns-in-Err-clause-further : goal.returns-in-Err-clause-further
returns-in-Err-clause-further g c = further_none (g.R.Source.remaining c.args.reader)

pub returns-in-Err-clause-calls : goal.returns-in-Err-clause-calls
returns-in-Err-clause-calls g c = (0, c.args.reader, go_on_none g.R.Source.called c.args.reader, inl refl)

pub returns-in-Err-clause-passed_on : goal.returns-in-Err-clause-passed_on
returns-in-Err-clause-passed_on g c = λ other. inl refl
