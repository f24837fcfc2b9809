-- An answer that could not be written is one to the log that was read.
use Rattle.std.proofs.Common.{◌≡◌, ◌∙◌, ℕ, List, ap, string_bytes, subst}
use Rattle.std.proofs.lemmas.Result.{err_from_is_err_and}
use Rattle.json_lines.specs.WriteCalls.{AppendsFront}
use Rattle.app_logs.specs.Failure.{error_by}
use Rattle.app_logs.specs.declared.failure.LogError.TheVariants.{WriteFault}
use Rattle.app_logs.proofs.CallLaws.{whole_end, whole_error}
use Rattle.app_logs.proofs.answering.answer_log.Goals as goal

-- ---- the log could not be read

pub returns-in_err-whole-clause-begun : goal.returns-in_err-whole-clause-begun
returns-in_err-whole-clause-begun g c = λ is.
    let p = err_from_is_err_and c.from_residual.result c.from_residual.ensures.1 in
    let same : c.in_err-whole.field-0.0 ≡ WriteFault = cc (is, p.1, p.2) in absurd (c.in_err-whole.ensures.unwritten same)

pub returns-in_err-whole-clause-read_whole : goal.returns-in_err-whole-clause-read_whole
returns-in_err-whole-clause-read_whole g c = λ is.
    let p = err_from_is_err_and c.from_residual.result c.from_residual.ensures.1 in
    let same : c.in_err-whole.field-0.0 ≡ WriteFault = cc (is, p.1, p.2) in absurd (c.in_err-whole.ensures.unwritten same)

pub returns-in_err-whole-clause-calls : goal.returns-in_err-whole-clause-calls
returns-in_err-whole-clause-calls g c =
    let p = err_from_is_err_and c.from_residual.result c.from_residual.ensures.1 in
    whole_error g.R.Source.called c.from_residual.result p.0 c.in_err-whole.field-0.0 _ _ p.1 p.2 c.in_err-whole.ensures.calls

pub returns-in_err-whole-clause-write_fault : goal.returns-in_err-whole-clause-write_fault
returns-in_err-whole-clause-write_fault g c = λ is.
    let p = err_from_is_err_and c.from_residual.result c.from_residual.ensures.1 in
    let same : c.in_err-whole.field-0.0 ≡ WriteFault = cc (is, p.1, p.2) in absurd (c.in_err-whole.ensures.unwritten same)

-- ---- memory ran out for its answer

pub returns-in_err-answer-clause-begun : goal.returns-in_err-answer-clause-begun
returns-in_err-answer-clause-begun g c = λ is.
    let p = err_from_is_err_and c.from_residual-in_err-answer.result c.from_residual-in_err-answer.ensures.1 in
    absurd (cc (is, p.1, p.2, c.in_err-answer.ensures.error))

pub returns-in_err-answer-clause-read_whole : goal.returns-in_err-answer-clause-read_whole
returns-in_err-answer-clause-read_whole g c = λ is. c.in_ok-whole.ensures.end

pub returns-in_err-answer-clause-calls : goal.returns-in_err-answer-clause-calls
returns-in_err-answer-clause-calls g c =
    let p = err_from_is_err_and c.from_residual-in_err-answer.result c.from_residual-in_err-answer.ensures.1 in
    whole_end g.R.Source.called c.from_residual-in_err-answer.result p.0 _ _ p.1 (p.2 ∙ c.in_err-answer.ensures.error) c.in_ok-whole.ensures.calls

pub returns-in_err-answer-clause-write_fault : goal.returns-in_err-answer-clause-write_fault
returns-in_err-answer-clause-write_fault g c = λ is.
    let p = err_from_is_err_and c.from_residual-in_err-answer.result c.from_residual-in_err-answer.ensures.1 in
    absurd (cc (is, p.1, p.2, c.in_err-answer.ensures.error))

-- ---- it could not be written

pub returns-in_err-write_output-clause-begun : goal.returns-in_err-write_output-clause-begun
returns-in_err-write_output-clause-begun g c = λ is.
    let before = g.W.Sink.contents c.args.writer.now in
    let after = g.W.Sink.contents c.write_output.new.writer in record {
      log = c.in_ok-whole.whole.reader.log;
      torn = c.in_ok-whole.whole.torn;
      text = string_bytes c.in_ok-answer.answer.text;
      outcome = c.in_ok-answer.answer.outcome;
      whole = c.in_ok-whole.ensures.whole;
      answer = c.in_ok-answer.ensures.answer;
      written = subst (λ (l : List ℕ). AppendsFront before after l) c.as_bytes.ensures.value c.in_err-write_output.ensures.begun;
    }

pub returns-in_err-write_output-clause-read_whole : goal.returns-in_err-write_output-clause-read_whole
returns-in_err-write_output-clause-read_whole g c = λ is. c.in_ok-whole.ensures.end

pub returns-in_err-write_output-clause-calls : goal.returns-in_err-write_output-clause-calls
returns-in_err-write_output-clause-calls g c =
    let p = err_from_is_err_and c.from_residual-in_err-write_output.result c.from_residual-in_err-write_output.ensures.1 in
    let fault : p.0 ≡ WriteFault = p.2 ∙ ap error_by c.in_err-write_output.ensures.error in
    whole_error g.R.Source.called c.from_residual-in_err-write_output.result p.0 WriteFault _ _ p.1 fault c.in_ok-whole.ensures.calls

pub returns-in_err-write_output-clause-write_fault : goal.returns-in_err-write_output-clause-write_fault
returns-in_err-write_output-clause-write_fault g c = λ is. c.in_err-write_output.ensures.fault

-- ---- it was written

pub returns-clause-begun : goal.returns-clause-begun
returns-clause-begun g c = λ is. absurd cc

pub returns-clause-read_whole : goal.returns-clause-read_whole
returns-clause-read_whole g c = λ is. c.in_ok-whole.ensures.end

pub returns-clause-calls : goal.returns-clause-calls
returns-clause-calls g c = c.in_ok-whole.ensures.calls

pub returns-clause-passed_on : goal.returns-clause-passed_on
returns-clause-passed_on g c = c.in_ok-write_output.ensures.passed_on

pub returns-clause-write_fault : goal.returns-clause-write_fault
returns-clause-write_fault g c = λ is. absurd cc
