-- A page that could not be written is one of the log that was read.
use Rattle.std.specs.Prelude.{◌≤◌, ℕ, List, length}
use Rattle.std.proofs.Common.{◌≡◌, ◌∙◌, ap, arith, rules, subst, sym}
use Rattle.std.proofs.lemmas.Result.{err_from_is_err_and}
use Rattle.json_lines.specs.WriteCalls.{AppendsFront}
use Rattle.app_engine.specs.declared.failure.RunError.{RunError}
use Rattle.app_engine.specs.declared.input.TheConstants.{MAX_INPUT_BYTES}
use Rattle.app_logs.specs.declared.failure.LogError.TheVariants.{WriteFault}
use Rattle.app_pages.specs.Failure.{page_error_by}
use Rattle.app_pages.specs.Writing.{FailsToWrite, IsPageOfLog}
use Rattle.app_pages.specs.declared.failure.PageError.TheVariants.{Log}
use Rattle.app_pages.proofs.PageFaults.{not_whole, unanswered_not_written, unread_not_written, whole}
use Rattle.app_pages.proofs.logs.page_of_log.Goals as goal

-- ---- the log could not be read

pub returns-in_err-log-clause-read_whole : goal.returns-in_err-log-clause-read_whole
returns-in_err-log-clause-read_whole g c =
    let p = err_from_is_err_and c.from_residual.result c.from_residual.ensures.1 in
    not_whole _ c.from_residual.result p.0 c.in_err-log.field-0.0 p.1 p.2 c.in_err-log.ensures.errors

pub returns-in_err-log-clause-begun : goal.returns-in_err-log-clause-begun
returns-in_err-log-clause-begun g c = λ is.
    let p = err_from_is_err_and c.from_residual.result c.from_residual.ensures.1 in
    absurd (unread_not_written c.in_err-log.field-0.0 c.in_err-log.ensures.errors (cc (is, p.1, p.2)))

pub returns-in_err-log-clause-end_found : goal.returns-in_err-log-clause-end_found
returns-in_err-log-clause-end_found g c =
    let p = err_from_is_err_and c.from_residual.result c.from_residual.ensures.1 in
    not_whole _ c.from_residual.result p.0 c.in_err-log.field-0.0 p.1 p.2 c.in_err-log.ensures.errors

pub returns-in_err-log-clause-write_fault : goal.returns-in_err-log-clause-write_fault
returns-in_err-log-clause-write_fault g c = λ is.
    let p = err_from_is_err_and c.from_residual.result c.from_residual.ensures.1 in
    absurd (unread_not_written c.in_err-log.field-0.0 c.in_err-log.ensures.errors (cc (is, p.1, p.2)))

-- ---- it has no page

pub returns-in_err-page-clause-read_whole : goal.returns-in_err-page-clause-read_whole
returns-in_err-page-clause-read_whole g c =
    let p = err_from_is_err_and c.from_residual-in_err-page.result c.from_residual-in_err-page.ensures.1 in
    whole _ c.from_residual-in_err-page.result p.0 c.in_err-page.field-0.0 c.in_ok-log.ensures.end p.1 p.2

pub returns-in_err-page-clause-begun : goal.returns-in_err-page-clause-begun
returns-in_err-page-clause-begun g c = λ is.
    let p = err_from_is_err_and c.from_residual-in_err-page.result c.from_residual-in_err-page.ensures.1 in
    absurd (unanswered_not_written c.as_slice.result.now c.in_err-page.field-0.0 c.in_err-page.ensures.error (cc (is, p.1, p.2)))

pub returns-in_err-page-clause-end_found : goal.returns-in_err-page-clause-end_found
returns-in_err-page-clause-end_found g c =
    let p = err_from_is_err_and c.from_residual-in_err-page.result c.from_residual-in_err-page.ensures.1 in
    whole _ c.from_residual-in_err-page.result p.0 c.in_err-page.field-0.0 c.in_ok-log.ensures.end_found p.1 p.2

pub returns-in_err-page-clause-write_fault : goal.returns-in_err-page-clause-write_fault
returns-in_err-page-clause-write_fault g c = λ is.
    let p = err_from_is_err_and c.from_residual-in_err-page.result c.from_residual-in_err-page.ensures.1 in
    absurd (unanswered_not_written c.as_slice.result.now c.in_err-page.field-0.0 c.in_err-page.ensures.error (cc (is, p.1, p.2)))

-- ---- it could not be written

pub returns-in_err-write_output-clause-failed : goal.returns-in_err-write_output-clause-failed
returns-in_err-write_output-clause-failed g c =
    let before = g.R.Source.remaining c.args.reader.now in
    let p = err_from_is_err_and c.from_residual-in_err-write_output.result c.from_residual-in_err-write_output.ensures.1 in
    let page =
    subst (λ (l : List ℕ). IsPageOfLog c.args.most c.in_ok-page.page.torn l c.in_ok-page.page.bytes.items) c.as_slice.ensures.value
    c.in_ok-page.ensures.page in
    let few : length c.in_ok-log.log.items ≤ MAX_INPUT_BYTES = let within = c.in_ok-log.ensures.within in omega (arith, within, c.in_ok-log.log.ok) in
    let written : FailsToWrite c.args.most before (Log WriteFault) = (
      c.in_ok-log.log.items,
      c.in_ok-log.ensures.all,
      few,
      (c.in_ok-page.page.torn, c.in_ok-page.page.bytes.items, page),
    ) in
    rw (p.1, p.2)
    (subst (λ (failure : RunError). FailsToWrite c.args.most before (page_error_by failure)) (sym c.in_err-write_output.ensures.error) written)

pub returns-in_err-write_output-clause-read_whole : goal.returns-in_err-write_output-clause-read_whole
returns-in_err-write_output-clause-read_whole g c =
    let p = err_from_is_err_and c.from_residual-in_err-write_output.result c.from_residual-in_err-write_output.ensures.1 in
    let fault : p.0 ≡ Log WriteFault = p.2 ∙ ap page_error_by c.in_err-write_output.ensures.error in
    whole _ c.from_residual-in_err-write_output.result p.0 WriteFault c.in_ok-log.ensures.end p.1 fault

pub returns-in_err-write_output-clause-begun : goal.returns-in_err-write_output-clause-begun
returns-in_err-write_output-clause-begun g c = λ is.
    let before = g.W.Sink.contents c.args.writer.now in
    let after = g.W.Sink.contents c.write_output.new.writer in
    let page =
    subst (λ (l : List ℕ). IsPageOfLog c.args.most c.in_ok-page.page.torn l c.in_ok-page.page.bytes.items) c.as_slice.ensures.value
    c.in_ok-page.ensures.page in
    let few : length c.in_ok-log.log.items ≤ MAX_INPUT_BYTES = let within = c.in_ok-log.ensures.within in omega (arith, within, c.in_ok-log.log.ok) in
    let front : AppendsFront before after c.in_ok-page.page.bytes.items = search rules in
    (c.in_ok-log.log.items, c.in_ok-log.ensures.all, few, (c.in_ok-page.page.bytes.items, (c.in_ok-page.page.torn, page), front))

pub returns-in_err-write_output-clause-end_found : goal.returns-in_err-write_output-clause-end_found
returns-in_err-write_output-clause-end_found g c =
    let p = err_from_is_err_and c.from_residual-in_err-write_output.result c.from_residual-in_err-write_output.ensures.1 in
    let fault : p.0 ≡ Log WriteFault = p.2 ∙ ap page_error_by c.in_err-write_output.ensures.error in
    whole _ c.from_residual-in_err-write_output.result p.0 WriteFault c.in_ok-log.ensures.end_found p.1 fault

pub returns-in_err-write_output-clause-write_fault : goal.returns-in_err-write_output-clause-write_fault
returns-in_err-write_output-clause-write_fault g c = λ is. c.in_err-write_output.ensures.fault
