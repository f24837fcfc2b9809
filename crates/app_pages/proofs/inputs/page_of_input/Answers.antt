-- A page that could not be written is one of the input that was read.
use Rattle.std.proofs.Common.{◌≤◌, ℕ, List, length, rules, subst, sym}
use Rattle.std.proofs.lemmas.Result.{err_from_is_err_and}
use Rattle.json_lines.specs.WriteCalls.{AppendsFront}
use Rattle.app_engine.specs.InputLengths.{most_bytes}
use Rattle.app_engine.specs.Running.{Fails}
use Rattle.app_engine.specs.declared.failure.RunError.{RunError}
use Rattle.app_engine.specs.declared.failure.RunError.TheVariants.{WriteFault}
use Rattle.app_pages.specs.Writing.{IsPageOfInput, listing_order}
use Rattle.app_pages.proofs.inputs.page_of_input.Goals as goal

pub returns-in_err-write_output-clause-failed : goal.returns-in_err-write_output-clause-failed
returns-in_err-write_output-clause-failed g c =
    let p = err_from_is_err_and c.from_residual-in_err-write_output.result c.from_residual-in_err-write_output.ensures.1 in
    let order = listing_order c.args.most c.args.length in
    let before = g.R.Source.remaining c.args.reader.now in
    let input = c.in_ok-input.field-0.items in
    let within : length input ≤ most_bytes c.args.length = search rules in
    let output : Fails order before WriteFault = search rules in
    rw (p.1, p.2) (subst (λ (e : RunError). Fails order before e) (sym c.in_err-write_output.ensures.error) output)

pub returns-in_err-write_output-clause-begun : goal.returns-in_err-write_output-clause-begun
returns-in_err-write_output-clause-begun g c = λ is.
    let before = g.W.Sink.contents c.args.writer.now in
    let after = g.W.Sink.contents c.write_output.new.writer in
    let input = c.in_ok-input.field-0.items in
    let page = c.in_ok-page.page.items in
    let within : length input ≤ most_bytes c.args.length = search rules in
    let is_page : IsPageOfInput c.args.most c.args.length input page =
    subst (λ (l : List ℕ). IsPageOfInput c.args.most c.args.length l page) c.as_slice.ensures.value c.in_ok-page.ensures.page in
    let front : AppendsFront before after page = search rules in
    (input, c.in_ok-input.ensures.all, within, (page, is_page, front))

pub returns-in_err-write_output-clause-begun_kept : goal.returns-in_err-write_output-clause-begun_kept
returns-in_err-write_output-clause-begun_kept g c = λ is.
    let before = g.W.Sink.contents c.args.writer.now in
    let after = g.W.Sink.contents c.write_output.new.writer in
    let input = c.in_ok-input.field-0.items in
    let page = c.in_ok-page.page.items in
    let is_page : IsPageOfInput c.args.most c.args.length input page =
    subst (λ (l : List ℕ). IsPageOfInput c.args.most c.args.length l page) c.as_slice.ensures.value c.in_ok-page.ensures.page in
    let front : AppendsFront before after page = search rules in
    (page, is_page, front)

pub returns-in_err-write_output-clause-write_fault : goal.returns-in_err-write_output-clause-write_fault
returns-in_err-write_output-clause-write_fault g c = λ is. c.in_err-write_output.ensures.fault
