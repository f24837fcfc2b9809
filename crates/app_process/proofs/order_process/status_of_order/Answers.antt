-- An order failed as the reader or the writer did, or for another reason.
use Rattle.std.specs.Prelude.{Err, Result, refl}
use Rattle.std.proofs.Common.{subst}
use Rattle.std.specs.Option.{option_copied}
use Rattle.json_lines.specs.declared.outcome.Outcome.{Outcome}
use Rattle.show_refusals.specs.declared.refusal.InputForm.{InputForm}
use Rattle.app_engine.specs.declared.failure.RunError.{RunError}
use Rattle.app_engine.specs.InputLengths.{length_for}
use Rattle.app_process.specs.Failing.{Refuses, refusal_for}
use Rattle.app_process.specs.Faults.{Blames, MayFail, ReadingFails, WritingFails}
use Rattle.app_process.proofs.EndLaws.{refuses_order}
use Rattle.app_process.proofs.FaultLaws.{fails_to_take, finds_none_for, may_fail}
use Rattle.app_process.proofs.order_process.status_of_order.Goals as goal

pub returns : goal.returns
returns g c =
    let failed : Result Outcome RunError = Err c.in-Err.error in
    let blamed : MayFail (Blames (ReadingFails 0 g.R.Source.called) (WritingFails g.W.Sink.called)) c.in-Err.error =
    may_fail failed c.in-Err.error refl
    (λ e. finds_none_for g.R.Source.called (length_for c.args.order.now) c.args.reader c.run_keeping.new.reader (c.in-Err.ensures.fault e))
    (λ e. fails_to_take g.W.Sink.called c.args.writer.now c.run_keeping.new.writer (c.in-Err.ensures.write_fault e)) in
    let P : InputForm → Type 0 = λ form. Refuses (option_copied c.args.place.now.label) c.args.place.now.is_terminal c.args.detail
    (refusal_for form c.in-Err.error) c.in-Err.error (g.E.Say.said c.args.errors.now) (g.E.Say.said c.report_refused.new.errors) c.report_refused.result in
    refuses_order _ _ g.W.Sink.contents c.args.writer.now c.run_keeping.new.writer c.args.order.now c.args.detail c.args.manner.now _ _ _ _ c.in-Err.error
    c.in-Err.ensures.failed blamed c.in-Err.ensures.unwritten (subst P c.form_of-form.ensures c.report_refused.ensures)
