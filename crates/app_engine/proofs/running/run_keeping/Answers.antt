-- An answer that could not be written is that of the input that was read.
use Rattle.std.proofs.Common.{◌≤◌, List, ℕ, length, rules, string_bytes, subst, sym}
use Rattle.std.proofs.lemmas.Result.{err_from_is_err_and}
use Rattle.json_lines.specs.WriteCalls.{AppendsFront}
use Rattle.app_engine.specs.Running.{Fails, IsOutput}
use Rattle.app_engine.specs.declared.failure.RunError.{RunError}
use Rattle.app_engine.specs.declared.failure.RunError.TheVariants.{WriteFault}
use Rattle.app_engine.specs.InputLengths.{length_for, most_bytes}
use Rattle.app_engine.proofs.running.run_keeping.Goals as goal

pub returns-in_err-write_output-clause-failed : goal.returns-in_err-write_output-clause-failed
returns-in_err-write_output-clause-failed g c =
    let p = err_from_is_err_and c.from_residual-in_err-write_output.result c.from_residual-in_err-write_output.ensures.1 in
    let order = c.args.order.now in
    let before = g.R.Source.remaining c.args.reader.now in
    let input = c.in_ok-input.field-0.items in
    let text = string_bytes c.in_ok-answered.answered.text in
    let output : IsOutput order input text = subst (λ (l : List ℕ). IsOutput order l text) c.as_slice.ensures.value c.in_ok-answered.ensures.output in
    let within : length input ≤ most_bytes (length_for order) = search rules in
    let failed : Fails order before WriteFault = (input, c.in_ok-input.ensures.all, within, (text, output)) in
    rw (p.1, p.2) (subst (λ (e : RunError). Fails order before e) (sym c.in_err-write_output.ensures.error) failed)

pub returns-in_err-write_output-clause-begun_kept : goal.returns-in_err-write_output-clause-begun_kept
returns-in_err-write_output-clause-begun_kept g c = λ is.
    let order = c.args.order.now in
    let input = c.in_ok-input.field-0.items in
    let text = string_bytes c.in_ok-answered.answered.text in
    let before = g.W.Sink.contents c.args.writer.now in
    let after = g.W.Sink.contents c.write_output.new.writer in
    let output : IsOutput order input text = subst (λ (l : List ℕ). IsOutput order l text) c.as_slice.ensures.value c.in_ok-answered.ensures.output in
    let front : AppendsFront before after text = subst (λ (l : List ℕ). AppendsFront before after l) c.as_bytes.ensures.value c.in_err-write_output.ensures.begun in
    (text, output, front)

pub returns-in_err-write_output-clause-begun : goal.returns-in_err-write_output-clause-begun
returns-in_err-write_output-clause-begun g c = λ is.
    let order = c.args.order.now in
    let input = c.in_ok-input.field-0.items in
    let text = string_bytes c.in_ok-answered.answered.text in
    let before = g.W.Sink.contents c.args.writer.now in
    let after = g.W.Sink.contents c.write_output.new.writer in
    let output : IsOutput order input text = subst (λ (l : List ℕ). IsOutput order l text) c.as_slice.ensures.value c.in_ok-answered.ensures.output in
    let front : AppendsFront before after text = subst (λ (l : List ℕ). AppendsFront before after l) c.as_bytes.ensures.value c.in_err-write_output.ensures.begun in
    let within : length input ≤ most_bytes (length_for order) = search rules in
    (input, c.in_ok-input.ensures.all, within, (text, output, front))
