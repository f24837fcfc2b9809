-- At the end of the input all of its bytes were noticed, and a fault is that of the reader below, or of the writer.
use Rattle.json_lines.specs.declared.read_call.TheConstants.{MAX_READ_CALLS}
use Rattle.app_process.specs.Steps.Readers.{PassesRead}
use Rattle.app_process.proofs.FaultLaws.{fails_to_take, inner_fails, lines_find_none, lines_may_fail}
use Rattle.app_process.proofs.NoticingLaws.{noticed_where_ok, not_noticing}
use Rattle.app_process.proofs.line_process.judge_noticed.Goals as goal

pub returns-clause-noticed : goal.returns-clause-noticed
returns-clause-noticed g c =
    noticed_where_ok (λ a o b. PassesRead g.R.Source.called a.reader o b.reader) (λ s. g.R.Source.remaining s.reader) (λ s. s.noticed) c.judge_lines.result.2
    MAX_READ_CALLS c.args.reader c.judge_lines.result.0 c.judge_lines.ensures.end c.judge_lines.ensures.end_found

pub returns-clause-blamed : goal.returns-clause-blamed
returns-clause-blamed g c =
    lines_may_fail c.judge_lines.result.2
    (λ e. inner_fails g.R.Source.called (λ s. s.reader) 0 (not_noticing (λ a o b. PassesRead g.R.Source.called a.reader o b.reader)
    (λ s. g.R.Source.remaining s.reader) (λ s. s.noticed) 0 (lines_find_none _ c.args.reader c.judge_lines.result.0 (c.judge_lines.ensures.fault e))))
    (λ e. fails_to_take g.W.Sink.called c.args.writer c.judge_lines.result.1 (c.judge_lines.ensures.write_fault e))
