-- A line on a cut that could not be written.
use Rattle.std.proofs.Common.{◌≡◌, ◌∙◌, ℕ, List, length, rules, subst}
use Rattle.json_lines.specs.WriteCalls.{AppendsFront}
use Rattle.app_logs.specs.Reports.{cut_line}
use Rattle.app_logs.proofs.turn.write_cut.Goals as goal

pub returns-in_err-write_output-clause-begun : goal.returns-in_err-write_output-clause-begun
returns-in_err-write_output-clause-begun g c = λ is.
    let before = g.W.Sink.contents c.args.writer.now in
    let after = g.W.Sink.contents c.write_output.new.writer in
    let report = c.in_ok-report.report in
    let line : c.in_ok-line.line.items ≡ cut_line (length c.args.log.now) report = search rules in
    (report, c.in_ok-report.ensures.report, subst (λ (l : List ℕ). AppendsFront before after l) (c.as_slice.ensures.value ∙ line) c.in_err-write_output.ensures.begun)

pub returns-in_err-write_output-clause-write_fault : goal.returns-in_err-write_output-clause-write_fault
returns-in_err-write_output-clause-write_fault g c = λ is. c.in_err-write_output.ensures.fault

pub returns-clause-passed_on : goal.returns-clause-passed_on
returns-clause-passed_on g c = c.in_ok-write_output.ensures.passed_on
